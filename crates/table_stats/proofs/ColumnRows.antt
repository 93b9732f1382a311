-- The columns of an entry's table are lists with one value for each row.
use Rattle.std.proofs.Common.{◌≡◌, ◌↔◌, ℕ, ◌<◌, true, List, length, map, get_or, pos, refl, ap, sym, ◌∙◌, subst, arith}
use Rattle.std.specs.List.{range_with_len, zip}
use Rattle.std.proofs.lemmas.List.FromFn.{fill_by_all, get_or-map-range_with_len, length-map-range_with_len}
use Rattle.std.proofs.lemmas.List.{length-map}
use Rattle.csv_tables.specs.Values.{Value, Int}
use Rattle.cond_stats.specs.Rows.{filter_values}
use Rattle.filtered_lists.specs.Standing.{value_in_row}
use Rattle.level_bounds.proofs.Lists.{map_of_map}
use Rattle.relabelling_laws.proofs.Rows.{zip_of_columns}
use Rattle.sql_meaning.specs.Tables.{Tables, row_counts}
use Rattle.table_stats.specs.Keys.{SeparatesListed, SeparatesValues}
use Rattle.table_stats.specs.Columns.{column_values, first_row, as_first_rows, paired, value_of_row}
use Rattle.table_stats.proofs.EqualValues.{equal_itself, is_equal}
use Rattle.table_stats.proofs.FirstRows.{first_has, first_row_exists, same_first}

-- ---- a list of values, one for each row

module _ (values : List Value) where
  -- the number of a row's value: the first row that has this value
  abbrev pub listed_number : ℕ → ℕ
  listed_number row = first_row values (value_of_row values row)

  pub listed_numbers : as_first_rows values ≡ map listed_number (range_with_len 0 (length values))
  listed_numbers =
      ap (map (first_row values)) (fill_by_all (value_of_row values) values (length values) (Int (pos 0)) refl (λ row is_below. refl))
      ∙ map_of_map (first_row values) (value_of_row values) listed_number (λ row. refl) (range_with_len 0 (length values))

  pub listed_below : (row : ℕ) → row < length values → listed_number row < length values
  listed_below row is_below = first_row_exists values (value_of_row values row) row (Int (pos 0)) is_below (equal_itself (value_of_row values row))

-- ---- the columns of an entry

module _ (tables : Tables) (entry : ℕ) where
  abbrev pub row_count : ℕ
  row_count = row_counts tables entry

  abbrev pub rows : List ℕ
  rows = range_with_len 0 row_count

  module _ (column : ℕ) where
    abbrev pub value_at : ℕ → Value
    value_at row = value_in_row tables entry column row

    abbrev pub values : List Value
    values = column_values tables entry column

    -- the number of a row's value: the first row that has this value
    abbrev pub number_at : ℕ → ℕ
    number_at row = first_row values (value_at row)

    pub values_length : length values ≡ row_count
    values_length = length-map-range_with_len value_at 0 row_count

    pub numbers_are : as_first_rows values ≡ map number_at rows
    numbers_are = map_of_map (first_row values) value_at number_at (λ row. refl) rows

    pub value_of_row_is : (row : ℕ) → row < row_count → value_of_row values row ≡ value_at row
    value_of_row_is row is_below = get_or-map-range_with_len value_at 0 row_count row row (Int (pos 0)) is_below (omega arith)

    pub value_is_equal : (row : ℕ) → row < row_count → is_equal (get_or values row (Int (pos 0))) (value_at row) ≡ true
    value_is_equal row is_below =
        ap (λ (v : Value). is_equal v (value_at row)) (get_or-map-range_with_len value_at 0 row_count row row (Int (pos 0)) is_below (omega arith))
        ∙ equal_itself (value_at row)

    pub number_below : (row : ℕ) → row < row_count → number_at row < length values
    number_below row is_below = first_row_exists values (value_at row) row (Int (pos 0)) (omega (arith, values_length)) (value_is_equal row is_below)

    pub number_has : (row : ℕ) → row < row_count → is_equal (value_of_row values (number_at row)) (value_at row) ≡ true
    number_has row is_below = first_has values (value_at row) (number_below row is_below)

    pub same_number : (row other : ℕ) → is_equal (value_at row) (value_at other) ≡ true → number_at row ≡ number_at other
    same_number row other h = same_first values (value_at row) (value_at other) h

  -- ---- a list `joined_values` with one value for each row of the table; it needn't be a column of the table
  module _ (joined_values : List Value) (joined_length : length joined_values ≡ row_count) where
    pub listed_numbers_are : as_first_rows joined_values ≡ map (listed_number joined_values) rows
    listed_numbers_are = listed_numbers joined_values ∙ ap (λ (n : ℕ). map (listed_number joined_values) (range_with_len 0 n)) joined_length

    pub pairs_are : (column : ℕ) → paired (values column) joined_values ≡ zip (map (number_at column) rows) (map (listed_number joined_values) rows)
    pairs_are column =
        ap (λ (s : List ℕ). zip s (as_first_rows joined_values)) (numbers_are column)
        ∙ ap (λ (s : List ℕ). zip (map (number_at column) rows) s) listed_numbers_are

    pub filter_numbers : (column : ℕ) → filter_values (paired (values column) joined_values) ≡ as_first_rows (values column)
    filter_numbers column =
        (zip_of_columns (as_first_rows (values column)) (as_first_rows joined_values)
        (omega (
          arith,
          length-map (values column) (first_row (values column)),
          length-map joined_values (first_row joined_values),
          values_length column,
          joined_length,
        ))).0

  pub values_are_separated : (column : ℕ) (key : ℕ → ℕ) → SeparatesValues tables entry column key → SeparatesListed (values column) key
  values_are_separated column key tells row other is_below also =
      let below : row < row_count = omega (arith, is_below, values_length column) in
      let beside : other < row_count = omega (arith, also, values_length column) in
      subst (λ (v : Value). (key row ≡ key other) ↔ (is_equal v (value_of_row (values column) other) ≡ true)) (sym (value_of_row_is column row below))
      (subst (λ (v : Value). (key row ≡ key other) ↔ (is_equal (value_at column row) v ≡ true)) (sym (value_of_row_is column other beside)) (tells row other below beside))
