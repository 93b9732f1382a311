-- Each list of a joined column dominates the keys that this column has in the rows which the list is for.
use Rattle.std.proofs.Common.{◌≡◌, ◌↔◌, ℕ, ◌+◌, ◌<◌, ◌≤◌, Bool, true, eqb, List, length, map, Option, None, Some, refl, ap, sym, ◌∙◌, subst, arith}
use Rattle.std.specs.Prelude.{unwrap_or}
use Rattle.std.specs.List.{filter}
use Rattle.std.proofs.lemmas.Bool.{and_parts, eq-eqb}
use Rattle.csv_tables.specs.Values.{Value}
use Rattle.cond_stats.specs.Columns.{value_le}
use Rattle.cond_stats.specs.Leaves.{cuts, in_node, leaf_of, node_size}
use Rattle.cond_stats.specs.Lists.{compressed_degrees, list_of_node, list_of_value}
use Rattle.cond_stats.specs.Rows.{filter_values, keys_where}
use Rattle.cond_stats.proofs.Dominating.{value_dominates}
use Rattle.cond_stats.proofs.LastPlaces.{last_place-mono}
use Rattle.cond_stats.proofs.Nodes.{node_between}
use Rattle.cond_stats.proofs.Ranges.{leaf-below, value_le-trans}
use Rattle.degree_sequences.specs.Domination.{DominatesKeys}
use Rattle.degree_sequences.proofs.CompressedLists.{compressed_dominates}
use Rattle.filtered_lists.specs.Ranges.{Range}
use Rattle.filtered_lists.specs.Standing.{ListsStandFor, has_value, is_from, is_in_range, is_up_to, rows_where}
use Rattle.filtered_lists.proofs.Counting.{all_pass}
use Rattle.level_bounds.proofs.Lists.{range_within}
use Rattle.relabelling_laws.specs.Relabelling.{AreEqualAlike}
use Rattle.relabelling_laws.proofs.Dominated.{passing_dominated}
use Rattle.relabelling_laws.proofs.Rows.{passing_of_rows}
use Rattle.sql_meaning.specs.Tables.{Tables, row_counts}
use Rattle.table_stats.specs.Columns.{column_values, first_row, as_first_rows, paired, row_le, value_of_row}
use Rattle.table_stats.specs.Keys.{SeparatesListed, SeparatesValues}
use Rattle.table_stats.specs.Statistics.{column_lists, end_leaf, lists_over}
use Rattle.table_stats.proofs.ColumnRows.{filter_numbers, values_length, listed_below, listed_number, listed_numbers_are, values_are_separated, number_at, number_has, pairs_are, row_count, rows, value_at, values}
use Rattle.table_stats.proofs.EqualValues.{alike_le, equal_itself, is_equal, le_from_ge}
use Rattle.table_stats.proofs.FirstRows.{equal_firsts, same_first}
use Rattle.table_stats.proofs.FewerRows.{PassesBoth, all_in_range, fewer_dominated}

-- ---- the leaves of a range's ends

module _ (filter : List Value) where
  abbrev pub first_leaf : Option Value → ℕ
  first_leaf low = unwrap_or (end_leaf filter low) 0

  abbrev pub last_leaf : Option Value → ℕ
  last_leaf high = unwrap_or (end_leaf filter high) 31

  abbrev pub leaf_at : ℕ → ℕ
  leaf_at number = leaf_of (row_le filter) (as_first_rows filter) number

  first-small : (low : Option Value) → first_leaf low ≤ 31
  first-small None = omega arith
  first-small (Some low) = leaf-below (row_le filter) (as_first_rows filter) (λ cut. value_le (value_of_row filter cut) low)

  last-small : (high : Option Value) → last_leaf high ≤ 31
  last-small None = omega arith
  last-small (Some high) = leaf-below (row_le filter) (as_first_rows filter) (λ cut. value_le (value_of_row filter cut) high)

  module _ (number : ℕ) (value : Value) (number_has_value : is_equal (value_of_row filter number) value ≡ true) where
    from_first : (low : Option Value) → is_from low value ≡ true → first_leaf low ≤ leaf_at number
    from_first None h = omega arith
    from_first (Some low) h = last_place-mono (λ cut. value_le (value_of_row filter cut) low) (λ cut. row_le filter cut number)
        (λ cut under. value_le-trans (value_of_row filter cut) low (value_of_row filter number) under
        (alike_le low low (value_of_row filter number) value (equal_itself low) number_has_value ∙ le_from_ge value low h))
        (cuts (row_le filter) (as_first_rows filter))

    up_to_last : (high : Option Value) → is_up_to high value ≡ true → leaf_at number ≤ last_leaf high
    up_to_last None h = leaf-below (row_le filter) (as_first_rows filter) (λ cut. row_le filter cut number)
    up_to_last (Some high) h = last_place-mono (λ cut. row_le filter cut number) (λ cut. value_le (value_of_row filter cut) high)
        (λ cut under. value_le-trans (value_of_row filter cut) (value_of_row filter number) high under
        (alike_le (value_of_row filter number) value high high number_has_value (equal_itself high) ∙ h))
        (cuts (row_le filter) (as_first_rows filter))

    pub in_their_node : (low high : Option Value) → is_from low value ≡ true → is_up_to high value ≡ true
        → in_node (node_size (first_leaf low) (last_leaf high)) (first_leaf low) (leaf_at number) ≡ true
    in_their_node low high from to =
        node_between (first_leaf low) (last_leaf high) (leaf_at number) (first-small low) (last-small high) (from_first low from) (up_to_last high to)

-- ---- an entry's table with a list of joined values, one for each row of the table

module _ (tables : Tables) (accuracy entry : ℕ) (joined_values : List Value) (joined_length : length joined_values ≡ row_count tables entry) where
  -- the joined values, as numbers, of the rows that pass a test
  abbrev pub joined_rows : (ℕ → Bool) → List ℕ
  joined_rows test = map (listed_number joined_values) (filter test (rows tables entry))

  whole_dominates : DominatesKeys (compressed_degrees accuracy (as_first_rows joined_values)) (joined_rows (λ row. true))
  whole_dominates =
      subst (DominatesKeys (compressed_degrees accuracy (as_first_rows joined_values)))
      (listed_numbers_are tables entry joined_values joined_length ∙ ap (map (listed_number joined_values)) (sym (all_pass (λ row. true) (rows tables entry))))
      (compressed_dominates accuracy (as_first_rows joined_values))

  pairs_where : (column : ℕ) (passes : ℕ → Bool)
      → keys_where passes (paired (values tables entry column) joined_values) ≡ joined_rows (λ row. passes (number_at tables entry column row))
  pairs_where column passes =
      ap (keys_where passes) (pairs_are tables entry joined_values joined_length column)
      ∙ passing_of_rows (number_at tables entry column) (listed_number joined_values) (rows tables entry)
      (λ row. passes (number_at tables entry column row)) passes (λ row has. refl)

  abbrev has_number : ℕ → ℕ → ℕ → Bool
  has_number column number row = eqb (number_at tables entry column row) number

  equal_dominates : (column number : ℕ)
      → DominatesKeys (list_of_value accuracy (paired (values tables entry column) joined_values) (Some number)) (joined_rows (has_number column number))
  equal_dominates column number =
      subst (DominatesKeys (list_of_value accuracy (paired (values tables entry column) joined_values) (Some number)))
      (pairs_where column (λ other. eqb other number))
      (value_dominates accuracy (paired (values tables entry column) joined_values) number)

  abbrev in_leaves : ℕ → ℕ → ℕ → ℕ → Bool
  in_leaves column first last row = in_node (node_size first last) first (leaf_at (values tables entry column) (number_at tables entry column row))

  leaves_dominate : (column first last : ℕ)
      → DominatesKeys (list_of_node (row_le (values tables entry column)) accuracy (paired (values tables entry column) joined_values) (node_size first last) first)
      (joined_rows (in_leaves column first last))
  unfolding list_of_node
  leaves_dominate column first last =
      let at_most : ℕ → ℕ → Bool = row_le (values tables entry column) in
      let pairs : List (ℕ × ℕ) = paired (values tables entry column) joined_values in
      let passes : List ℕ → ℕ → Bool = λ numbers number. in_node (node_size first last) first (leaf_of at_most numbers number) in
      subst (DominatesKeys (compressed_degrees accuracy (keys_where (passes (filter_values pairs)) pairs)))
      (pairs_where column (passes (filter_values pairs)) ∙ ap (λ (numbers : List ℕ). joined_rows (λ row. passes numbers (number_at tables entry column row)))
      (filter_numbers tables entry joined_values joined_length column))
      (compressed_dominates accuracy (keys_where (passes (filter_values pairs)) pairs))

  -- ---- any keys that are equal exactly if the numbers of the joined values are equal

  module _ (key : ℕ → ℕ) (alike : (row other : ℕ) → row < row_count tables entry → other < row_count tables entry
      → (listed_number joined_values row ≡ listed_number joined_values other) ↔ (key row ≡ key other)) where
    are_alike : AreEqualAlike (listed_number joined_values) key (rows tables entry)
    are_alike row other has also =
        let low : row < 0 + row_count tables entry = (range_within 0 (row_count tables entry) row has).1 in
        let low_too : other < 0 + row_count tables entry = (range_within 0 (row_count tables entry) other also).1 in
        alike row other (omega arith) (omega arith)

    by_keys : (s : List ℕ) (p q : ℕ → Bool) → ((row : ℕ) → row < row_count tables entry → p row ≡ true → q row ≡ true)
        → DominatesKeys s (joined_rows q) → DominatesKeys s (map key (filter p (rows tables entry)))
    by_keys s p q passes dominates =
        (passing_dominated s (listed_number joined_values) key (rows tables entry) p are_alike).0
        (fewer_dominated (listed_number joined_values) p q s (rows tables entry)
        (all_in_range (PassesBoth (listed_number joined_values) p q) 0 (row_count tables entry) (λ row low. passes row (omega arith))) dominates)

    pub whole_for_keys : DominatesKeys (lists_over accuracy (values tables entry) joined_values).whole (map key (rows tables entry))
    whole_for_keys =
        subst (DominatesKeys (lists_over accuracy (values tables entry) joined_values).whole) (ap (map key) (all_pass (λ row. true) (rows tables entry)))
        (by_keys (lists_over accuracy (values tables entry) joined_values).whole (λ row. true) (λ row. true) (λ row low h. h) whole_dominates)

    pub equal_for_keys : (column : ℕ) (value : Value)
        → DominatesKeys ((lists_over accuracy (values tables entry) joined_values).equal column value) (map key (rows_where tables entry (has_value tables entry column value)))
    equal_for_keys column value =
        let filter_values : List Value = values tables entry column in
        by_keys ((lists_over accuracy (values tables entry) joined_values).equal column value) (has_value tables entry column value) (has_number column (first_row filter_values value))
        (λ row low h. eq-eqb (number_at tables entry column row) (first_row filter_values value) (same_first filter_values (value_at tables entry column row) value h))
        (equal_dominates column (first_row filter_values value))

    pub range_for_keys : (range : Range)
        → DominatesKeys ((lists_over accuracy (values tables entry) joined_values).range range) (map key (rows_where tables entry (is_in_range tables entry range)))
    range_for_keys range =
        let filter_values : List Value = values tables entry range.column in
        let first : ℕ = first_leaf filter_values range.low in
        let last : ℕ = last_leaf filter_values range.high in
        by_keys ((lists_over accuracy (values tables entry) joined_values).range range) (is_in_range tables entry range) (in_leaves range.column first last)
        (λ row low h.
        let parts = and_parts (is_from range.low (value_at tables entry range.column row)) (is_up_to range.high (value_at tables entry range.column row)) h in
        in_their_node filter_values (number_at tables entry range.column row) (value_at tables entry range.column row) (number_has tables entry range.column row low)
        range.low range.high parts.0 parts.1)
        (leaves_dominate range.column first last)

-- ---- keys that tell which values are equal

keys_equal_alike : (joined_values : List Value) (key : ℕ → ℕ) → SeparatesListed joined_values key
    → (row other : ℕ) → row < length joined_values → other < length joined_values → (listed_number joined_values row ≡ listed_number joined_values other) ↔ (key row ≡ key other)
keys_equal_alike joined_values key tells row other low also = (
  (λ same. (tells row other low also).1 (equal_firsts joined_values (value_of_row joined_values row) (value_of_row joined_values other) (listed_below joined_values row low) same)),
  (λ same. same_first joined_values (value_of_row joined_values row) (value_of_row joined_values other) ((tells row other low also).0 same)),
)

pub listed_stand : (tables : Tables) (accuracy entry : ℕ) (joined_values : List Value) (key : ℕ → ℕ) → length joined_values ≡ row_counts tables entry → SeparatesListed joined_values key
    → ListsStandFor (lists_over accuracy (column_values tables entry) joined_values) tables entry key
listed_stand tables accuracy entry joined_values key lengths tells =
    let alike : (row other : ℕ) → row < row_count tables entry → other < row_count tables entry → (listed_number joined_values row ≡ listed_number joined_values other) ↔ (key row ≡ key other) =
    λ row other low also. keys_equal_alike joined_values key tells row other (omega (arith, low, lengths)) (omega (arith, also, lengths)) in record {
      whole = whole_for_keys tables accuracy entry joined_values lengths key alike;
      equal = equal_for_keys tables accuracy entry joined_values lengths key alike;
      range = range_for_keys tables accuracy entry joined_values lengths key alike;
    }

pub lists_stand : (tables : Tables) (accuracy entry column : ℕ) (key : ℕ → ℕ) → SeparatesValues tables entry column key → ListsStandFor (column_lists tables accuracy entry column) tables entry key
lists_stand tables accuracy entry column key tells =
    listed_stand tables accuracy entry (values tables entry column) key (values_length tables entry column) (values_are_separated tables entry column key tells)
