use Rattle.level_bounds.proofs.SetNumbers.{order_of_all, prefix_of_order}
use Rattle.level_bounds.proofs.laws.orders_are_of_their_sets.Goals as goal

pub returns-clause-prefixes : goal.returns-clause-prefixes
returns-clause-prefixes c = prefix_of_order

pub returns-clause-all : goal.returns-clause-all
returns-clause-all c = order_of_all
