use Rattle.std.proofs.Common.{◌≡◌, map, take}
use Rattle.degree_sequences.specs.Saturation.{saturated}
use Rattle.berge_tree.specs.Boxed.{tree_of}
use Rattle.tree_bounds.specs.TreeBounds.{bound_of_trees}
use Rattle.bound_fold.specs.Lists.{bounds_of}
use Rattle.bound_fold.proofs.sets.product_of_trees.Given as goal

abbrev pub invariant-loop-tree : goal.invariant-loop-tree
invariant-loop-tree l = l.product ≡ saturated (bound_of_trees (bounds_of l.lists) (map tree_of (take l.tree-index l.trees)))
