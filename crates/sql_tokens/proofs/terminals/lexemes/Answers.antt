use Rattle.std.proofs.Common.{map, ◌∙◌, ap, arith}
use Rattle.std.proofs.lemmas.List.{take_all}
use Rattle.sql_tokens.specs.Words.{lexeme_of}
use Rattle.sql_tokens.proofs.LexemeFacts.{lexemes_within}
use Rattle.sql_tokens.proofs.terminals.lexemes.Goals as goal

pub returns-clause-within : goal.returns-clause-within
returns-clause-within c =
    lexemes_within c.args.text.now c.args.tokens.now c.all.found (c.all.invariant ∙ ap (map (lexeme_of c.args.text.now)) (take_all c.all.token-index c.args.tokens.now (omega arith))) c.requires
