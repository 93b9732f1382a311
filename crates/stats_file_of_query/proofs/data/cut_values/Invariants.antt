use Rattle.std.proofs.Common.{◌≡◌, map, take}
use Rattle.csv_tables.specs.Cells.{value_of_cell}
use Rattle.stats_file_of_query.specs.Data.{datum_of}
use Rattle.stats_file_of_query.proofs.data.cut_values.Given as goal

abbrev pub invariant-loop-cell : goal.invariant-loop-cell
invariant-loop-cell l = l.values ≡ map (λ cell. datum_of (value_of_cell l.pool l.kind cell)) (take l.cell-index l.cuts)
