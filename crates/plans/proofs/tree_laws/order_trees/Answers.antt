use Rattle.plans.proofs.OrderTrees.{order_is_tree, right_leaves}
use Rattle.plans.proofs.tree_laws.order_trees.Goals as goal

pub returns-clause-trees : goal.returns-clause-trees
returns-clause-trees c = order_is_tree

pub returns-clause-leaves : goal.returns-clause-leaves
returns-clause-leaves c = right_leaves
