use Rattle.std.proofs.Common.{◌≡◌, not, take}
use Rattle.std.specs.List.{filter}
use Rattle.csv_tables.specs.Cells.{value_of_cell}
use Rattle.degree_sequences.specs.Degrees.{different}
use Rattle.appended_stats.specs.Grown.{is_frequent}
use Rattle.appended_stats.proofs.rest.other_cells.Given as goal

abbrev pub invariant-loop-cell : goal.invariant-loop-cell
invariant-loop-cell l = l.others.keys ≡ different (filter (λ cell. not (is_frequent l.frequent (value_of_cell l.pool l.kind cell))) (take l.cell-index l.cells))
