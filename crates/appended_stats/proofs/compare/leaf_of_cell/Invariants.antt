use Rattle.std.proofs.Common.{◌≡◌, length, take}
use Rattle.std.specs.List.{range_with_len}
use Rattle.csv_tables.specs.Cells.{value_of_cell}
use Rattle.cond_stats.specs.Columns.{value_le}
use Rattle.cond_stats.specs.Leaves.{last_place}
use Rattle.stats_file_of_query.specs.Standing.{leaf_cut}
use Rattle.appended_stats.proofs.compare.leaf_of_cell.Given as goal

abbrev pub invariant-loop-i : goal.invariant-loop-i
invariant-loop-i l = l.leaf ≡ last_place (λ leaf. value_le (leaf_cut l.pair leaf) (value_of_cell l.pool l.kind l.cell)) (take l.i (range_with_len 0 (length l.pair.cuts)))
