use Rattle.stats_reading.proofs.CodeFacts.{no_blank, splits_in_two}
use Rattle.stats_reading.proofs.line.split_words.Goals as goal

pub returns-in-None : goal.returns-in-None
returns-in-None c = no_blank c.args.kind c.args.words.now c.requires c.in-None.ensures

pub returns-in-Some : goal.returns-in-Some
returns-in-Some c = splits_in_two c.args.kind c.args.words.now c.in-Some.first.now c.in-Some.second.now c.requires c.in-Some.ensures
