use Rattle.std.proofs.Common.{ap}
use Rattle.tree_bounds.specs.TreeBounds.{bound_of_trees}
use Rattle.set_bounds.proofs.SameTrees.{alike_trees}
use Rattle.set_bounds.proofs.laws.alike_turns_have_the_same_trees.Goals as goal

pub returns-clause-trees : goal.returns-clause-trees
returns-clause-trees c = alike_trees

pub returns-clause-bound : goal.returns-clause-bound
returns-clause-bound c b es subset turn other h = ap (bound_of_trees b) (alike_trees es subset turn other h)
