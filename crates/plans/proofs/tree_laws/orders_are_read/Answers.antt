use Rattle.plans.proofs.Reading.{order_is_read, order_tree_is_plan, tree_is_kept}
use Rattle.plans.proofs.tree_laws.orders_are_read.Goals as goal

pub returns-clause-read : goal.returns-clause-read
returns-clause-read c = order_is_read

pub returns-clause-made : goal.returns-clause-made
returns-clause-made c = tree_is_kept

pub returns-clause-plans : goal.returns-clause-plans
returns-clause-plans c = order_tree_is_plan
