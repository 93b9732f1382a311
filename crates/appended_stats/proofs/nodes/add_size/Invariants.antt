use Rattle.std.proofs.Common.{◌≡◌, ◌++◌, ◌*◌, map}
use Rattle.std.specs.List.{range_with_len, zip}
use Rattle.cond_stats.specs.Leaves.{in_node}
use Rattle.cond_stats.specs.Lists.{list_where}
use Rattle.appended_stats.proofs.nodes.add_size.Given as goal

abbrev pub invariant-loop-i : goal.invariant-loop-i
invariant-loop-i l = l.nodes ≡ l.initial.nodes ++
    map (λ i. list_where l.accuracy (λ leaf. in_node l.size (l.size * i) leaf) (zip l.leaves l.joined)) (range_with_len 0 l.i)
