-- The row counts and the lists of tables, for each entry and column.
use Rattle.std.specs.Prelude.{ℕ}
use Rattle.query_bounds.specs.Statistics.{Statistics}
use Rattle.sql_meaning.specs.Tables.{Tables}
use Rattle.table_stats.specs.Statistics.{column_lists, entry_counts}

-- for each entry its numbers of rows (`RowCounts`), and for each of its columns the lists (`ColumnLists`)
abbrev pub statistics_of : Tables → ℕ → Statistics
statistics_of tables accuracy = record { counts = entry_counts tables; lists = column_lists tables accuracy }
