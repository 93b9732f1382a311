use Rattle.std.proofs.Common.{◌≡◌, map, take}
use Rattle.csv_tables.specs.Cells.{value_of_cell}
use Rattle.stats_file_of_query.specs.Standing.{leaf_of_value}
use Rattle.appended_stats.proofs.nodes.leaves.Given as goal

abbrev pub invariant-loop-cell : goal.invariant-loop-cell
invariant-loop-cell l = l.leaves.items ≡ map (λ cell. leaf_of_value l.pair (value_of_cell l.pool l.kind cell)) (take l.cell-index l.cells)
