use Rattle.std.proofs.Common.{◌≡◌, take}
use Rattle.std.specs.List.{zip}
use Rattle.cond_stats.specs.Leaves.{in_node}
use Rattle.cond_stats.specs.Rows.{keys_where}
use Rattle.appended_stats.proofs.nodes.keys_in_node.Given as goal

abbrev pub invariant-loop-i : goal.invariant-loop-i
invariant-loop-i l = l.keys.items ≡ keys_where (in_node l.size l.leaf) (zip (take l.i l.leaves) (take l.i l.joined))
