use Rattle.std.proofs.Common.{◌≡◌, take}
use Rattle.std.specs.List.{flat_map, zip}
use Rattle.column_stats.specs.Nodes.{node_sizes}
use Rattle.appended_stats.specs.Grown.{lists_of_size}
use Rattle.appended_stats.proofs.nodes.lists_of_nodes.Given as goal

abbrev pub invariant-loop-size : goal.invariant-loop-size
invariant-loop-size l = l.nodes ≡ flat_map (lists_of_size (λ leaf. leaf) l.accuracy (zip l.leaves l.joined)) (take l.size-index node_sizes)
