-- When statistics stand for an entry's table: no list and no number in them is too low. Also which rows pass the entry's own conjuncts.
use Rattle.std.specs.Prelude.{◌≡◌, ◌≤◌, ℕ, Bool, true, ◌&&◌, List, map, length, Option, None, Some}
use Rattle.std.specs.List.{filter, range_with_len, sum}
use Rattle.std.specs.Ordering.{is_eq, is_ge, is_le}
use Rattle.csv_tables.specs.Values.{Value, value_cmp}
use Rattle.degree_sequences.specs.Domination.{DominatesKeys}
use Rattle.degree_sequences.specs.Descending.{IsDescending}
use Rattle.query_types.specs.declared.types.Cond.{Cond}
use Rattle.sql_meaning.specs.Answers.{conjunct_of}
use Rattle.sql_meaning.specs.Conditions.{column_value}
use Rattle.sql_meaning.specs.Levels.{scan}
use Rattle.sql_meaning.specs.Tables.{Tables, row_counts}
use Rattle.filtered_lists.specs.Lists.{ColumnLists, RowCounts}
use Rattle.filtered_lists.specs.Ranges.{Range}

-- the value of an entry's row in a column
abbrev pub value_in_row : Tables → ℕ → ℕ → ℕ → Value
value_in_row tables entry column row = column_value tables (λ e. row) (record { from = entry; column = column })

-- whether a value is at least the low end, if there is a low end
abbrev pub is_from : Option Value → Value → Bool
is_from None value = true
is_from (Some low) value = is_ge (value_cmp value low)

-- whether a value is at most the high end, if there is a high end
abbrev pub is_up_to : Option Value → Value → Bool
is_up_to None value = true
is_up_to (Some high) value = is_le (value_cmp value high)

-- whether an entry's row has this value in this column
abbrev pub has_value : Tables → ℕ → ℕ → Value → ℕ → Bool
has_value tables entry column value row = is_eq (value_cmp (value_in_row tables entry column row) value)

-- whether the row's value in the range's column lies in the range
abbrev pub is_in_range : Tables → ℕ → Range → ℕ → Bool
is_in_range tables entry range row =
    is_from range.low (value_in_row tables entry range.column row) && is_up_to range.high (value_in_row tables entry range.column row)

-- the row numbers of an entry's rows that pass a test
abbrev pub rows_where : Tables → ℕ → (ℕ → Bool) → List ℕ
rows_where tables entry test = filter test (range_with_len 0 (row_counts tables entry))

-- The lists of a joined column stand for an entry's table: each list dominates the keys of the rows that it is for. `key` gives each row's key in
-- that column
pub record ListsStandFor (lists : ColumnLists) (tables : Tables) (entry : ℕ) (key : ℕ → ℕ) : Type 0 where
  pub whole : DominatesKeys lists.whole (map key (range_with_len 0 (row_counts tables entry)))
  pub equal : (column : ℕ) (value : Value)
      → DominatesKeys (lists.equal column value) (map key (rows_where tables entry (has_value tables entry column value)))
  pub range : (range : Range) → DominatesKeys (lists.range range) (map key (rows_where tables entry (is_in_range tables entry range)))

-- The numbers of rows stand for an entry's table: each is at least the number of rows that it counts
pub record CountsStandFor (counts : RowCounts) (tables : Tables) (entry : ℕ) : Type 0 where
  pub whole : row_counts tables entry ≤ counts.whole
  pub equal : (column : ℕ) (value : Value)
      → length (rows_where tables entry (has_value tables entry column value)) ≤ counts.equal column value
  pub range : (range : Range) → length (rows_where tables entry (is_in_range tables entry range)) ≤ counts.range range

-- each list sums to its number of rows
pub record SumTo (lists : ColumnLists) (counts : RowCounts) : Type 0 where
  pub whole : sum lists.whole ≡ counts.whole
  pub equal : (column : ℕ) (value : Value) → sum (lists.equal column value) ≡ counts.equal column value
  pub range : (range : Range) → sum (lists.range range) ≡ counts.range range

-- each list is in descending order
pub record ListsDescend (lists : ColumnLists) : Type 0 where
  pub whole : IsDescending lists.whole
  pub equal : (column : ℕ) (value : Value) → IsDescending (lists.equal column value)
  pub range : (range : Range) → IsDescending (lists.range range)

-- the row numbers of an entry's rows that pass its own conjuncts
abbrev pub scan_of : Tables → ℕ → List Cond → List ℕ
scan_of tables entry conjuncts = scan (map (conjunct_of tables) conjuncts) (row_counts tables) entry
