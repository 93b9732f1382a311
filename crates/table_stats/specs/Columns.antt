-- The values of a column as numbers. The number of a value is the first row that has it, so equal values have equal numbers.
use Rattle.std.specs.Prelude.{ℕ, Bool, List, map, pos, slice_index_or}
use Rattle.std.specs.List.{position_or_len, range_with_len, zip}
use Rattle.std.specs.Ordering.{is_eq}
use Rattle.csv_tables.specs.Values.{Value, Int, value_cmp}
use Rattle.cond_stats.specs.Columns.{leaf_among, value_le}
use Rattle.cond_stats.specs.Leaves.{cuts}
use Rattle.filtered_lists.specs.Standing.{value_in_row}
use Rattle.sql_meaning.specs.Tables.{Tables, row_counts}

-- the value of each row of an entry's table in a column
abbrev pub column_values : Tables → ℕ → ℕ → List Value
column_values tables entry column = map (value_in_row tables entry column) (range_with_len 0 (row_counts tables entry))

-- the first row that has a value, or the number of rows if no row has it
abbrev pub first_row : List Value → Value → ℕ
first_row values value = position_or_len (λ other. is_eq (value_cmp other value)) values

-- the column as the numbers of its values, row by row
abbrev pub as_first_rows : List Value → List ℕ
as_first_rows values = map (first_row values) values

-- the value of a row
abbrev pub value_of_row : List Value → ℕ → Value
value_of_row values row = slice_index_or values row (Int (pos 0))

-- the value of one row is at most the value of another row
abbrev pub row_le : List Value → ℕ → ℕ → Bool
row_le values row other = value_le (value_of_row values row) (value_of_row values other)

-- The leaf of any value, even if no row has it
abbrev pub leaf_of_value : List Value → Value → ℕ
leaf_of_value values value = leaf_among (value_of_row values) (cuts (row_le values) (as_first_rows values)) value

-- the numbers of a filter column and a joined column, as one pair for each row
abbrev pub paired : List Value → List Value → List (ℕ × ℕ)
paired filter joined = zip (as_first_rows filter) (as_first_rows joined)
