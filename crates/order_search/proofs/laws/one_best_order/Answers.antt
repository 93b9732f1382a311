use Rattle.order_search.proofs.OneBest.{one_best}
use Rattle.order_search.proofs.SomeBest.{some_best}
use Rattle.order_search.proofs.laws.one_best_order.Goals as goal

pub returns-clause-exists : goal.returns-clause-exists
returns-clause-exists c bounds n = some_best bounds n

pub returns-clause-unique : goal.returns-clause-unique
returns-clause-unique c bounds n a b p q = one_best bounds n a b p q
