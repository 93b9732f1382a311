use Rattle.std.proofs.Common.{◌≡◌, drop}
use Rattle.berge_tree.specs.Walk.{is_in_a_tree}
use Rattle.berge_tree.proofs.walk.is_in_a_tree.Given as goal

abbrev pub invariant-loop-tree : goal.invariant-loop-tree
invariant-loop-tree l = is_in_a_tree (drop l.tree-index l.trees) l.entry ≡ is_in_a_tree l.trees l.entry
