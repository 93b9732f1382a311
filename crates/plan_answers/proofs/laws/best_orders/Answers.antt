use Rattle.plan_answers.proofs.BestComputed.{best_computed}
use Rattle.plan_answers.proofs.OneAnswer.{only_best}
use Rattle.plan_answers.proofs.laws.best_orders.Goals as goal

pub returns : goal.returns
returns c = record { best = best_computed; no_other_result = only_best }
