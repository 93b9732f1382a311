use Rattle.stats_words.proofs.TextFacts.{number_none}
use Rattle.stats_words.proofs.values.number_datum.Goals as goal

pub returns-in-None : goal.returns-in-None
returns-in-None c = number_none c.args.word.now c.in-None.ensures
