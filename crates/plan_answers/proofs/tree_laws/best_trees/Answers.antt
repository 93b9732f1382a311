use Rattle.plan_answers.proofs.BestTreeComputed.{best_computed}
use Rattle.plan_answers.proofs.OneTreeAnswer.{only_best}
use Rattle.plan_answers.proofs.tree_laws.best_trees.Goals as goal

pub returns : goal.returns
returns c = record { best = best_computed; no_other_result = only_best }
