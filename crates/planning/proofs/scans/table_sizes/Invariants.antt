use Rattle.std.proofs.Common.{◌≡◌, map}
use Rattle.std.specs.List.{range_with_len}
use Rattle.sql_meaning.specs.Tables.{row_counts, tables_of}
use Rattle.planning.proofs.scans.table_sizes.Given as goal

abbrev pub invariant-entries : goal.invariant-entries
invariant-entries l = l.sizes.items ≡ map (row_counts (tables_of l.db)) (range_with_len 0 l.entry)
