use Rattle.tree_bounds.proofs.NearSets.{turn_near, set_near}
use Rattle.tree_bounds.proofs.Nearing.{tree_near, trees_near}
use Rattle.tree_bounds.proofs.laws.bounds_are_near.Goals as goal

pub returns-clause-tree : goal.returns-clause-tree
returns-clause-tree c = tree_near

pub returns-clause-trees : goal.returns-clause-trees
returns-clause-trees c = trees_near

pub returns-clause-set : goal.returns-clause-set
returns-clause-set c = set_near

pub returns-clause-turn : goal.returns-clause-turn
returns-clause-turn c = turn_near
