use Rattle.std.proofs.Common.{◌≡◌, take}
use Rattle.std.specs.List.{flat_map, zip}
use Rattle.cond_stats.specs.Columns.{cell_le}
use Rattle.column_stats.specs.Nodes.{lists_of_size, node_sizes}
use Rattle.column_stats.proofs.parts.node_lists.Given as goal

abbrev pub invariant-loop-size : goal.invariant-loop-size
invariant-loop-size l = l.nodes ≡ flat_map (lists_of_size (cell_le l.column.texts l.column.kind) l.accuracy (zip l.column.cells l.joined)) (take l.size-index node_sizes)
