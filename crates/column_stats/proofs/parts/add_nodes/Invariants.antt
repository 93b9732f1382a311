use Rattle.std.proofs.Common.{◌≡◌, ◌++◌, ◌*◌, map}
use Rattle.std.specs.List.{range_with_len, zip}
use Rattle.cond_stats.specs.Columns.{cell_le}
use Rattle.cond_stats.specs.Lists.{list_of_node}
use Rattle.column_stats.proofs.parts.add_nodes.Given as goal

abbrev pub invariant-loop-i : goal.invariant-loop-i
invariant-loop-i l = l.nodes ≡ l.initial.nodes ++
    map (λ i. list_of_node (cell_le l.column.texts l.column.kind) l.accuracy (zip l.column.cells l.joined) l.size (l.size * i)) (range_with_len 0 l.i)
