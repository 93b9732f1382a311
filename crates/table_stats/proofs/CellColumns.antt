-- A column of cells has the same lists as the column of the cells' values. Equal cells have one number, and cells compare as their values do.
use Rattle.std.proofs.Common.{◌≡◌, ℕ, ◌<◌, true, List, length, map, get_or, pos, Option, None, Some, refl, ap, sym, ◌∙◌, subst, arith, inl, inr}
use Rattle.std.specs.Prelude.{option_map}
use Rattle.std.specs.List.{All, Contains, zip}
use Rattle.std.proofs.lemmas.Bool.{false≢true}
use Rattle.std.proofs.lemmas.List.{get_or-map, length-map}
use Rattle.std.proofs.lemmas.List.Elements.{Contains-get_or}
use Rattle.schema_types.specs.declared.types.Kind.{Kind}
use Rattle.csv_tables.specs.Cells.{IsCell, value_of_cell}
use Rattle.csv_tables.specs.Values.{Value, Int}
use Rattle.cond_stats.specs.Columns.{cell_le, leaf_of_value as leaf_in_cells, list_between as list_of_cells_between, value_le}
use Rattle.cond_stats.specs.Leaves.{last_leaf_where}
use Rattle.cond_stats.specs.Lists.{compressed_degrees, list_of_range, list_of_value}
use Rattle.level_bounds.specs.Keys.{HaveDifferentCharacters}
use Rattle.level_bounds.proofs.CellKeys.{equal_cells}
use Rattle.level_bounds.proofs.Lists.{map_of_map}
use Rattle.relabelling_laws.specs.Relabelling.{IsMissing, IsOneToOne, KeepsOrder, PassAlike}
use Rattle.relabelling_laws.proofs.Columns.{leaf_is}
use Rattle.relabelling_laws.proofs.Rows.{absent_list_unchanged, zip_of_columns, range_list_unchanged, value_list_unchanged, whole_list_unchanged, is_in_column_or_not as found}
use Rattle.table_stats.specs.Cells.{IsCellFor}
use Rattle.table_stats.specs.Columns.{first_row, leaf_of_value, as_first_rows, paired, row_le, value_of_row}
use Rattle.table_stats.specs.Statistics.{end_leaf, list_between, list_with}
use Rattle.table_stats.proofs.EqualValues.{alike_le, equal_symmetric, equal_transitive, equal_itself, is_equal}
use Rattle.table_stats.proofs.FirstRows.{equal_firsts, first_has, first_row_exists, same_first}

-- ---- a column of cells, and its values

module _ (texts : List (List ℕ)) (texts_differ : HaveDifferentCharacters texts) (kind : Kind) (cells : List ℕ) (cells_are_valid : All (IsCell texts kind) cells) where
  abbrev pub of_cell : ℕ → Value
  of_cell cell = value_of_cell texts kind cell

  abbrev pub cell_values : List Value
  cell_values = map of_cell cells

  -- the number of a cell: the first row that has the cell's value
  abbrev pub number_of : ℕ → ℕ
  number_of cell = first_row cell_values (of_cell cell)

  pub numbers_of_cells : as_first_rows cell_values ≡ map number_of cells
  numbers_of_cells = map_of_map (first_row cell_values) of_cell number_of (λ cell. refl) cells

  is_cell : (cell : ℕ) → Contains cells cell → IsCell texts kind cell
  is_cell cell has = subst (IsCell texts kind) has.2 (cells_are_valid has.0 cell has.1)

  has_row : (cell : ℕ) → Contains cells cell → number_of cell < length cell_values
  has_row cell has =
      let low : has.0 < length cells = has.1 in
      let at : get_or cell_values has.0 (Int (pos 0)) ≡ of_cell cell = get_or-map of_cell cells has.0 cell (Int (pos 0)) low ∙ ap of_cell has.2 in
      first_row_exists cell_values (of_cell cell) has.0 (Int (pos 0)) (omega (arith, low, length-map cells of_cell))
      (ap (λ (v : Value). is_equal v (of_cell cell)) at ∙ equal_itself (of_cell cell))

  first_is : (cell : ℕ) → Contains cells cell → is_equal (value_of_row cell_values (number_of cell)) (of_cell cell) ≡ true
  first_is cell has = first_has cell_values (of_cell cell) (has_row cell has)

  pub one_to_one : IsOneToOne number_of cells
  one_to_one a b has_a has_b same =
      equal_cells texts texts_differ kind kind a b (is_cell a has_a) (is_cell b has_b) (equal_firsts cell_values (of_cell a) (of_cell b) (has_row a has_a) same)

  pub keeps_order : KeepsOrder (cell_le texts kind) (row_le cell_values) number_of cells
  keeps_order a b has_a has_b =
      alike_le (value_of_row cell_values (number_of a)) (of_cell a) (value_of_row cell_values (number_of b)) (of_cell b) (first_is a has_a) (first_is b has_b)

  pub pass_alike : (value : Value) → PassAlike (λ cut. value_le (of_cell cut) value) (λ cut. value_le (value_of_row cell_values cut) value) number_of cells
  pass_alike value a has = alike_le (value_of_row cell_values (number_of a)) (of_cell a) value value (first_is a has) (equal_itself value)

  leaf_of_end : (value : Value) → leaf_of_value cell_values value ≡ leaf_in_cells texts kind cells value
  leaf_of_end value =
      ap (λ (s : List ℕ). last_leaf_where (row_le cell_values) s (λ cut. value_le (value_of_row cell_values cut) value)) numbers_of_cells
      ∙ leaf_is (cell_le texts kind) (row_le cell_values) number_of cells (λ cut. value_le (of_cell cut) value) (λ cut. value_le (value_of_row cell_values cut) value) keeps_order
      (pass_alike value)

  pub ends_are : (end : Option Value) → end_leaf cell_values end ≡ option_map (leaf_in_cells texts kind cells) end
  ends_are None = refl
  ends_are (Some value) = ap Some (leaf_of_end value)

  from_numbers : (number : ℕ) → Contains (map number_of cells) number → (cell : ℕ) × Contains cells cell × (number ≡ number_of cell)
  from_numbers number has =
      let low : has.0 < length cells = omega (arith, has.1, length-map cells number_of) in
      (get_or cells has.0 0, Contains-get_or cells has.0 0 low, sym has.2 ∙ get_or-map number_of cells has.0 0 number low)

  from_value : (value : Value) → Contains (map number_of cells) (first_row cell_values value) → (cell : ℕ) × Contains cells cell × (is_equal (of_cell cell) value ≡ true)
  from_value value has =
      let found = from_numbers (first_row cell_values value) has in
      (found.0, found.1, equal_firsts cell_values (of_cell found.0) value (has_row found.0 found.1) (sym found.2))

  pub both_missing : (value : Value) (cell : Option ℕ) → IsCellFor texts kind value cell → IsMissing cells cell → IsMissing (map number_of cells) (Some (first_row cell_values value))
  both_missing value None stands missing has =
      let found = from_value value has in
      absurd (false≢true (sym (stands found.0 (is_cell found.0 found.1)) ∙ found.2))
  both_missing value (Some cell) stands missing has =
      let found = from_value value has in
      let same : found.0 ≡ cell = equal_cells texts texts_differ kind kind found.0 cell (is_cell found.0 found.1) stands.0
      (equal_transitive (of_cell found.0) value (of_cell cell) found.2 (equal_symmetric (of_cell cell) value stands.1)) in
      missing (subst (Contains cells) same found.1)

  pub its_number : (value : Value) (cell : ℕ) → IsCellFor texts kind value (Some cell) → first_row cell_values value ≡ number_of cell
  its_number value cell stands = sym (same_first cell_values (of_cell cell) value stands.1)

-- ---- two columns of cells, and the lists of their values

module _ (texts : List (List ℕ)) (differ : HaveDifferentCharacters texts) (kind other : Kind) (filter joined : List ℕ)
    (are_filter : All (IsCell texts kind) filter) (are_joined : All (IsCell texts other) joined) (accuracy : ℕ) where
  abbrev filter_of : List Value
  filter_of = cell_values texts differ kind filter are_filter

  abbrev joined_of : List Value
  joined_of = cell_values texts differ other joined are_joined

  abbrev filter_number : ℕ → ℕ
  filter_number = number_of texts differ kind filter are_filter

  abbrev joined_number : ℕ → ℕ
  joined_number = number_of texts differ other joined are_joined

  filter_one_to_one : IsOneToOne filter_number filter
  filter_one_to_one = one_to_one texts differ kind filter are_filter

  joined_one_to_one : IsOneToOne joined_number joined
  joined_one_to_one = one_to_one texts differ other joined are_joined

  pairs : paired filter_of joined_of ≡ zip (map filter_number filter) (map joined_number joined)
  pairs =
      ap (λ (s : List ℕ). zip s (as_first_rows joined_of)) (numbers_of_cells texts differ kind filter are_filter)
      ∙ ap (λ (s : List ℕ). zip (map filter_number filter) s) (numbers_of_cells texts differ other joined are_joined)

  pub same_whole : compressed_degrees accuracy joined ≡ compressed_degrees accuracy (as_first_rows joined_of)
  same_whole =
      sym (ap (compressed_degrees accuracy) (numbers_of_cells texts differ other joined are_joined) ∙ whole_list_unchanged accuracy joined_number joined joined_one_to_one)

  missing_equal : (value : Value) (cell : Option ℕ) → IsCellFor texts kind value cell → IsMissing filter cell
      → list_of_value accuracy (zip (map filter_number filter) (map joined_number joined)) (Some (first_row filter_of value)) ≡ list_of_value accuracy (zip filter joined) cell
  missing_equal value cell stands missing =
      absent_list_unchanged accuracy filter_number joined_number filter joined (Some (first_row filter_of value)) cell filter_one_to_one joined_one_to_one
      (both_missing texts differ kind filter are_filter value cell stands missing) missing

  present_equal : (value : Value) (cell : Option ℕ) → IsCellFor texts kind value cell
      → list_of_value accuracy (zip (map filter_number filter) (map joined_number joined)) (Some (first_row filter_of value)) ≡ list_of_value accuracy (zip filter joined) cell
  present_equal value None stands = missing_equal value None stands tt
  present_equal value (Some cell) stands = elim (found filter cell) [
    | inl has ↦ ap (λ (number : ℕ). list_of_value accuracy (zip (map filter_number filter) (map joined_number joined)) (Some number))
        (its_number texts differ kind filter are_filter value cell stands)
        ∙ value_list_unchanged accuracy filter_number joined_number filter joined cell filter_one_to_one joined_one_to_one has
    | inr missing ↦ missing_equal value (Some cell) stands missing
  ]

  pub same_equal : (value : Value) (cell : Option ℕ) → IsCellFor texts kind value cell
      → list_of_value accuracy (zip filter joined) cell ≡ list_with accuracy filter_of joined_of value
  same_equal value cell stands =
      sym (ap (λ (rows : List (ℕ × ℕ)). list_of_value accuracy rows (Some (first_row filter_of value))) pairs ∙ present_equal value cell stands)

  pub same_range : length filter ≡ length joined → (low high : Option Value)
      → list_of_cells_between texts kind accuracy (zip filter joined) low high ≡ list_between accuracy filter_of joined_of low high
  same_range as_long low high =
      let leaf : List ℕ → Value → ℕ = leaf_in_cells texts kind in
      ap (λ (s : List ℕ). list_of_range (cell_le texts kind) accuracy (zip filter joined) (option_map (leaf s) low) (option_map (leaf s) high)) (zip_of_columns filter joined as_long).0
      ∙ sym (range_list_unchanged (cell_le texts kind) (row_le filter_of) accuracy filter_number joined_number filter joined (option_map (leaf filter) low) (option_map (leaf filter) high)
      (keeps_order texts differ kind filter are_filter) joined_one_to_one)
      ∙ ap (λ (rows : List (ℕ × ℕ)). list_of_range (row_le filter_of) accuracy rows (option_map (leaf filter) low) (option_map (leaf filter) high)) (sym pairs)
      ∙ ap (λ (o : Option ℕ). list_of_range (row_le filter_of) accuracy (paired filter_of joined_of) o (option_map (leaf filter) high))
      (sym (ends_are texts differ kind filter are_filter low))
      ∙ ap (λ (o : Option ℕ). list_of_range (row_le filter_of) accuracy (paired filter_of joined_of) (end_leaf filter_of low) o)
      (sym (ends_are texts differ kind filter are_filter high))
