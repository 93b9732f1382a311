use Rattle.stats_words.proofs.RunTexts.{no_run_without_star}
use Rattle.stats_words.proofs.lists.next_run.Goals as goal

pub returns-in-None : goal.returns-in-None
returns-in-None c = no_run_without_star c.args.below c.args.left c.args.word.now c.in-None.ensures
