-- Numbers that tell which values of a column are equal.
use Rattle.std.specs.Prelude.{◌≡◌, ◌↔◌, ℕ, ◌<◌, List, true, length}
use Rattle.std.specs.Ordering.{is_eq}
use Rattle.csv_tables.specs.Values.{Value, value_cmp}
use Rattle.filtered_lists.specs.Standing.{value_in_row}
use Rattle.sql_meaning.specs.Tables.{Tables, row_counts}
use Rattle.table_stats.specs.Columns.{value_of_row}

-- two rows of an entry's table have the same key exactly if their values in the column are equal
abbrev pub SeparatesValues : Tables → ℕ → ℕ → (ℕ → ℕ) → Type 0
SeparatesValues tables entry column key = (row other : ℕ) → row < row_counts tables entry → other < row_counts tables entry
    → (key row ≡ key other) ↔ (is_eq (value_cmp (value_in_row tables entry column row) (value_in_row tables entry column other)) ≡ true)

-- two rows have the same key exactly if the elements of the list at these rows are equal
abbrev pub SeparatesListed : List Value → (ℕ → ℕ) → Type 0
SeparatesListed values key = (row other : ℕ) → row < length values → other < length values
    → (key row ≡ key other) ↔ (is_eq (value_cmp (value_of_row values row) (value_of_row values other)) ≡ true)
