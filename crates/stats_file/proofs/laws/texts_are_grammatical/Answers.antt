use Rattle.stats_file.proofs.GrammarFacts.{file_is_text}
use Rattle.stats_file.proofs.laws.texts_are_grammatical.Goals as goal

pub returns : goal.returns
returns c = file_is_text
