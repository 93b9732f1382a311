-- Comparison of a file's values with literals of a query.
use Rattle.std.specs.Prelude.{Bool}
use Rattle.cond_stats.specs.Columns.{value_le}
use Rattle.csv_tables.specs.Values.{Value}
use Rattle.stats_file.specs.declared.types.Datum.{Datum}
use Rattle.stats_file_of_query.specs.Data.{value_of}

-- whether a cut is at most a value
abbrev pub is_at_most : Datum → Value → Bool
is_at_most cut value = value_le (value_of cut) value
