use Rattle.std.proofs.Common.{◌≡◌, take}
use Rattle.std.specs.List.{zip}
use Rattle.csv_tables.specs.Cells.{value_of_cell}
use Rattle.cond_stats.specs.Rows.{keys_where}
use Rattle.stats_file_of_query.specs.Standing.{is_value}
use Rattle.appended_stats.proofs.lists.keys_with.Given as goal

abbrev pub invariant-loop-i : goal.invariant-loop-i
invariant-loop-i l = l.keys.items ≡ keys_where (λ cell. is_value (value_of_cell l.pool l.kind cell) l.value) (zip (take l.i l.cells) (take l.i l.joined))
