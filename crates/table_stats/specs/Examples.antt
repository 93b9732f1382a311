-- A table for examples: its one column X has the values 1, 1, 1, 2, 2, 3.
use Rattle.std.specs.Prelude.{ℕ, List, [], ◌∷◌, map}
use Rattle.csv_tables.specs.Rows.{Row}
use Rattle.csv_tables.specs.Values.{Value}
use Rattle.filtered_lists.specs.Examples.{value}
use Rattle.sql_meaning.specs.Tables.{Tables}
use Rattle.table_stats.specs.Columns.{column_values}

abbrev pub row_of_six : ℕ → Row
row_of_six n = value n ∷ []

abbrev pub table_of_six : Tables
table_of_six entry = map row_of_six (1 ∷ 1 ∷ 1 ∷ 2 ∷ 2 ∷ 3 ∷ [])

-- the column X of entry 0
abbrev pub column_of_six : List Value
column_of_six = column_values table_of_six 0 0

-- a table without rows
abbrev pub table_without_rows : Tables
table_without_rows entry = []
