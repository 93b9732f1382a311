use Rattle.bushy_plan.proofs.OneBest.{one_best}
use Rattle.bushy_plan.proofs.SomeBest.{some_best}
use Rattle.bushy_plan.proofs.laws.one_best_tree.Goals as goal

pub returns-clause-exists : goal.returns-clause-exists
returns-clause-exists c bounds n exists = some_best bounds n exists

pub returns-clause-unique : goal.returns-clause-unique
returns-clause-unique c bounds n a b p q = one_best bounds n a b p q
