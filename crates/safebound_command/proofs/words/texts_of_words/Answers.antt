use Rattle.std.proofs.Common.{arith}
use Rattle.safebound_command.proofs.WordFacts.{word_at_index_is_no_text}
use Rattle.safebound_command.proofs.words.texts_of_words.Goals as goal

pub returns-in_default-clause-not_utf8 : goal.returns-in_default-clause-not_utf8
returns-in_default-clause-not_utf8 c = λ is. word_at_index_is_no_text c.args.words.now c.words.word-index _ (omega arith) c.in_default.ensures.cases.0
