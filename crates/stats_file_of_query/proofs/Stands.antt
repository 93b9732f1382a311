-- The statistics of a pair of columns stand for the rows from which they are made.
use Rattle.std.proofs.Common.{◌≡◌, ◌≢◌, ◌↔◌, ℕ, suc, ◌+◌, ◌<◌, Bool, true, false, ◌==◌, if◌then◌else◌, eqb, List, [], ◌∷◌, length, map, get_or, Option, Some, find, inl, inr, refl, ap, sym, ◌∙◌, subst, arith}
use Rattle.std.specs.Prelude.{◌||◌}
use Rattle.std.specs.List.{AllByRecursion, filter, list_any, range_with_len, sum, zip}
use Rattle.std.specs.Option.{option_map_or}
use Rattle.std.proofs.lemmas.Bool.{cases_Bool, eq-eqb, eqb-true, false≢true, ne_eqb}
use Rattle.std.proofs.lemmas.List.{get_or-map, length-map}
use Rattle.std.proofs.lemmas.Slice.Zip.{length-zip}
use Rattle.csv_tables.specs.Values as values
use Rattle.csv_tables.specs.Values.{Value}
use Rattle.cond_stats.specs.Columns.{value_le}
use Rattle.cond_stats.specs.Frequency.{frequent}
use Rattle.cond_stats.specs.Leaves.{IsNodeSize, cuts, in_node, last_place, leaf_of}
use Rattle.cond_stats.specs.Lists as lists
use Rattle.cond_stats.specs.Lists.{compressed_degrees, keys_with, rest, whole}
use Rattle.cond_stats.specs.Rows.{filter_values, joined_keys, keys_where}
use Rattle.cond_stats.proofs.Sums.{sum-whole}
use Rattle.column_stats.specs.Stats.{frequent_list}
use Rattle.column_stats.proofs.NodeLists.{node_is}
use Rattle.degree_sequences.specs.Domination.{DominatesKeys}
use Rattle.degree_sequences.proofs.CompressedLists.{compressed_dominates}
use Rattle.filtered_lists.specs.Standing.{has_value, rows_where, value_in_row}
use Rattle.level_bounds.proofs.Lists.{from_members, range_within}
use Rattle.relabelling_laws.specs.Relabelling.{AreEqualAlike}
use Rattle.relabelling_laws.proofs.Columns.{from_map}
use Rattle.relabelling_laws.proofs.Dominated.{passing_dominated}
use Rattle.relabelling_laws.proofs.Ordered.{All-frequent}
use Rattle.relabelling_laws.proofs.Rows.{zip_of_columns, passing_of_rows}
use Rattle.sql_meaning.specs.Tables.{Tables, row_counts}
use Rattle.stats_file.specs.declared.types.Datum.{Datum}
use Rattle.stats_file.specs.declared.types.Datum.TheVariants as datum
use Rattle.stats_file.specs.declared.types.PairStats.{PairStats}
use Rattle.table_stats.specs.Columns.{column_values, first_row, as_first_rows, paired, row_le, value_of_row}
use Rattle.table_stats.specs.Keys.{SeparatesValues}
use Rattle.table_stats.proofs.ColumnRows.{values_length, number_at, number_below, number_has, numbers_are, same_number}
use Rattle.table_stats.proofs.Dominating.{lists_stand}
use Rattle.table_stats.proofs.EqualValues.{alike_le, equal_symmetric, equal_transitive, equal_itself, is_equal}
use Rattle.table_stats.proofs.FewerRows.{PassesBoth, all_in_range, fewer_dominated}
use Rattle.table_stats.proofs.FirstRows.{equal_firsts, same_first}
use Rattle.stats_file_of_query.specs.Data.{datum_of, value_of}
use Rattle.stats_file_of_query.specs.Pairs.{datum_of_row, frequent_in, pair_in_table}
use Rattle.stats_file_of_query.specs.Standing.{PairStandsFor, leaf_cut, is_in_node, is_value, leaf_of_value, list_of_node, list_of_value}

pub value_round_trip : (v : Value) → value_of (datum_of v) ≡ v
value_round_trip (values.Int number) = refl
value_round_trip (values.Text text) = refl

-- ---- the last position that passes a test; `q` tests positions, and `p` the elements there

later : (q p : ℕ → Bool) (x : ℕ) (xs : List ℕ) (first : ℕ) → ((i : ℕ) → i < length (x ∷ xs) → q (first + i) ≡ p (get_or (x ∷ xs) i 0))
    → (i : ℕ) → i < length xs → q ((first + 1) + i) ≡ p (get_or xs i 0)
later q p x xs first h i low = let e : (first + 1) + i ≡ first + suc i = omega arith in ap q e ∙ h (suc i) (omega (arith, low))

here : (q p : ℕ → Bool) (x : ℕ) (xs : List ℕ) (first : ℕ) → ((i : ℕ) → i < length (x ∷ xs) → q (first + i) ≡ p (get_or (x ∷ xs) i 0)) → q first ≡ p x
here q p x xs first h = let e : first ≡ first + 0 = omega arith in ap q e ∙ h 0 (omega arith)

any_places : (q p : ℕ → Bool) (xs : List ℕ) (first : ℕ) → ((i : ℕ) → i < length xs → q (first + i) ≡ p (get_or xs i 0))
    → list_any q (range_with_len first (length xs)) ≡ list_any p xs
any_places q p [] first h = refl
any_places q p (x ∷ xs) first h = rw (here q p x xs first h, any_places q p xs (first + 1) (later q p x xs first h)) refl

pub from_none : (i : ℕ) → 0 + i ≡ i
from_none i = omega arith

pub by_place : (q p : ℕ → Bool) (xs : List ℕ) (first : ℕ) → ((i : ℕ) → i < length xs → q (first + i) ≡ p (get_or xs i 0))
    → last_place q (range_with_len first (length xs)) ≡ last_place p xs
by_place q p [] first h = refl
by_place q p (x ∷ xs) first h =
    rw (any_places q p xs (first + 1) (later q p x xs first h), by_place q p xs (first + 1) (later q p x xs first h)) refl

-- ---- the list that a pair has for a value

-- `is_wanted` says whether the next frequent value is the value that is looked for
pick : (test is_wanted any : Bool) (d : Datum) (list other others found : List ℕ) (rest : Option (Datum × List ℕ)) → test ≡ is_wanted → (is_wanted ≡ true → list ≡ other)
    → option_map_or (λ (one : Datum × List ℕ). one.1) rest others ≡ (if any then other else others)
    → option_map_or (λ (one : Datum × List ℕ). one.1) (if test then Some (d, list) else rest) others ≡ (if (is_wanted || any) then other else others)
pick true true any d list other others found rest same is later = is refl
pick false false any d list other others found rest same is later = later
pick true false any d list other others found rest same is later = absurd (false≢true (sym same))
pick false true any d list other others found rest same is later = absurd (false≢true same)

pub numbered_pairs : (tables : Tables) (entry filter joined : ℕ) → paired (column_values tables entry filter) (column_values tables entry joined)
    ≡ zip (map (number_at tables entry filter) (range_with_len 0 (row_counts tables entry))) (map (number_at tables entry joined) (range_with_len 0 (row_counts tables entry)))
numbered_pairs tables entry filter joined =
    ap (λ (s : List ℕ). zip s (as_first_rows (column_values tables entry joined))) (numbers_are tables entry filter)
    ∙ ap (λ (s : List ℕ). zip (map (number_at tables entry filter) (range_with_len 0 (row_counts tables entry))) s) (numbers_are tables entry joined)

module _ (tables : Tables) (accuracy entry filter_column joined : ℕ) where
  abbrev filters : List Value
  filters = column_values tables entry filter_column

  abbrev keys : List Value
  keys = column_values tables entry joined

  abbrev pairs : List (ℕ × ℕ)
  pairs = paired filters keys

  abbrev pair : PairStats
  pair = pair_in_table tables accuracy entry filter_column joined

  abbrev rows : List ℕ
  rows = range_with_len 0 (row_counts tables entry)

  abbrev le : ℕ → ℕ → Bool
  le = row_le filters

  same_lengths : length (as_first_rows filters) ≡ length (as_first_rows keys)
  same_lengths = omega (arith, length-map filters (first_row filters), length-map keys (first_row keys), values_length tables entry filter_column, values_length tables entry joined)

  pub firsts : filter_values pairs ≡ as_first_rows filters
  firsts = (zip_of_columns (as_first_rows filters) (as_first_rows keys) same_lengths).0

  pub seconds : joined_keys pairs ≡ as_first_rows keys
  seconds = (zip_of_columns (as_first_rows filters) (as_first_rows keys) same_lengths).1

  row_count_is : length pairs ≡ row_counts tables entry
  row_count_is = omega (arith, length-zip (as_first_rows filters) (as_first_rows keys), same_lengths, length-map filters (first_row filters), values_length tables entry filter_column)

  sums : sum (whole accuracy pairs) ≡ row_counts tables entry
  sums = sum-whole accuracy pairs ∙ row_count_is

  -- ---- the list of a value dominates its rows' keys

  module _ (value : Value) where
    abbrev number : ℕ
    number = first_row filters value

    abbrev IsAlike : ℕ → Type 0
    IsAlike n = is_value value (datum_of_row filters n) ≡ eqb n number

    same_test : (n : ℕ) → is_value value (datum_of_row filters n) ≡ is_equal (value_of_row filters n) value
    same_test n = ap (λ (v : Value). is_equal v value) (value_round_trip (value_of_row filters n))

    row_alike : (row : ℕ) → row < row_counts tables entry → IsAlike (number_at tables entry filter_column row)
    row_alike row low =
        let n : ℕ = number_at tables entry filter_column row in
        let its : Value = value_in_row tables entry filter_column row in
        let w : Value = value_of_row filters n in
        let has : is_equal w its ≡ true = number_has tables entry filter_column row low in
        let itself : n ≡ first_row filters w = same_first filters its w (equal_symmetric w its has) in
        same_test n ∙ elim (cases_Bool (is_equal w value)) [
          | inl e ↦ e ∙ sym (eq-eqb n number (itself ∙ same_first filters w value e))
          | inr e ↦ e ∙ sym (ne_eqb n number (λ same.
              false≢true (sym e ∙ equal_transitive w its value has (equal_firsts filters its value (number_below tables entry filter_column row low) same))))
        ]

    all_alike : AllByRecursion IsAlike (as_first_rows filters)
    all_alike =
        subst (AllByRecursion IsAlike) (sym (numbers_are tables entry filter_column))
        (from_members IsAlike (map (number_at tables entry filter_column) rows)
        (λ n has.
        let found = from_map (number_at tables entry filter_column) rows n has in
        subst IsAlike (sym found.2) (row_alike found.0 (omega (arith, (range_within 0 (row_counts tables entry) found.0 found.1).1)))))

    frequent_alike : AllByRecursion IsAlike (frequent (filter_values pairs))
    frequent_alike = All-frequent IsAlike (filter_values pairs) (subst (AllByRecursion IsAlike) (sym firsts) all_alike)

    among : (ns : List ℕ) → AllByRecursion IsAlike ns
        → option_map_or (λ (one : Datum × List ℕ). one.1)
        (find (λ (one : Datum × List ℕ). is_value value one.0) (map (frequent_in (datum_of_row filters)) (map (frequent_list accuracy pairs) ns))) (rest accuracy pairs)
        ≡ (if list_any (λ other. other == number) ns then compressed_degrees accuracy (keys_with number pairs) else rest accuracy pairs)
    among [] all = refl
    among (n ∷ ns) all =
        pick (is_value value (datum_of_row filters n)) (eqb n number) (list_any (λ other. other == number) ns) (datum_of_row filters n)
        (compressed_degrees accuracy (keys_with n pairs)) (compressed_degrees accuracy (keys_with number pairs)) (rest accuracy pairs) []
        (find (λ (one : Datum × List ℕ). is_value value one.0) (map (frequent_in (datum_of_row filters)) (map (frequent_list accuracy pairs) ns)))
        all.0 (λ e. ap (λ m. compressed_degrees accuracy (keys_with m pairs)) (eqb-true n number e)) (among ns all.1)

    pub list_is : list_of_value pair value ≡ lists.list_of_value accuracy pairs (Some number)
    unfolding lists.list_of_value
    list_is = among (frequent (filter_values pairs)) frequent_alike

  -- ---- the list of a node dominates its rows' keys

  abbrev column_cuts : List ℕ
  column_cuts = cuts le (filter_values pairs)

  same_leaf : (row : ℕ) → row < row_counts tables entry
      → leaf_of_value pair (value_in_row tables entry filter_column row) ≡ leaf_of le (as_first_rows filters) (number_at tables entry filter_column row)
  same_leaf row low =
      let its : Value = value_in_row tables entry filter_column row in
      let n : ℕ = number_at tables entry filter_column row in
      let q : ℕ → Bool = λ leaf. value_le (leaf_cut pair leaf) its in
      ap (λ count. last_place q (range_with_len 0 count)) (length-map column_cuts (datum_of_row filters))
      ∙ by_place q (λ cut. le cut n) column_cuts 0
      (λ i below.
      ap q (from_none i) ∙ ap (λ (v : Value). value_le v its)
      (ap value_of (get_or-map (datum_of_row filters) column_cuts i 0 (datum.Text []) below) ∙ value_round_trip (value_of_row filters (get_or column_cuts i 0)))
      ∙ alike_le (value_of_row filters (get_or column_cuts i 0)) (value_of_row filters (get_or column_cuts i 0)) its (value_of_row filters n)
      (equal_itself (value_of_row filters (get_or column_cuts i 0))) (equal_symmetric (value_of_row filters n) its (number_has tables entry filter_column row low)))
      ∙ ap (λ (s : List ℕ). leaf_of le s n) firsts

  abbrev holds : ℕ → ℕ → ℕ → Bool
  holds size leaf row = in_node size leaf (leaf_of le (as_first_rows filters) (number_at tables entry filter_column row))

  node_dominates : (size leaf : ℕ) → DominatesKeys (lists.list_of_node le accuracy pairs size leaf) (map (number_at tables entry joined) (filter (holds size leaf) rows))
  unfolding lists.list_of_node
  node_dominates size leaf =
      let passes : List ℕ → ℕ → Bool = λ numbers n. in_node size leaf (leaf_of le numbers n) in
      subst (DominatesKeys (compressed_degrees accuracy (keys_where (passes (filter_values pairs)) pairs)))
      (ap (keys_where (passes (filter_values pairs))) (numbered_pairs tables entry filter_column joined)
      ∙ passing_of_rows (number_at tables entry filter_column) (number_at tables entry joined) rows
      (λ row. passes (filter_values pairs) (number_at tables entry filter_column row)) (passes (filter_values pairs)) (λ row has. refl)
      ∙ ap (λ (numbers : List ℕ). map (number_at tables entry joined) (filter (λ row. passes numbers (number_at tables entry filter_column row)) rows)) firsts)
      (compressed_dominates accuracy (keys_where (passes (filter_values pairs)) pairs))

  -- ---- keys that are equal exactly if the values of the joined column are equal

  module _ (key : ℕ → ℕ) (tells : SeparatesValues tables entry joined key) where
    same_key : (row other : ℕ) → row < row_counts tables entry → other < row_counts tables entry
        → (number_at tables entry joined row ≡ number_at tables entry joined other) ↔ (key row ≡ key other)
    same_key row other low also = (
      (λ same. (tells row other low also).1
          (equal_firsts keys (value_in_row tables entry joined row) (value_in_row tables entry joined other) (number_below tables entry joined row low) same)),
      (λ same. same_number tables entry joined row other ((tells row other low also).0 same)),
    )

    are_alike : AreEqualAlike (number_at tables entry joined) key rows
    are_alike row other has also = same_key row other (omega (arith, (range_within 0 (row_counts tables entry) row has).1)) (omega (arith, (range_within 0 (row_counts tables entry) other also).1))

    node_for_keys : (size leaf : ℕ) → IsNodeSize size → leaf < 32
        → DominatesKeys (list_of_node pair size leaf) (map key (rows_where tables entry (is_in_node pair tables entry size leaf)))
    node_for_keys size leaf is below =
        let made : List ℕ = lists.list_of_node le accuracy pairs size leaf in
        let test : ℕ → Bool = is_in_node pair tables entry size leaf in
        subst (λ (s : List ℕ). DominatesKeys s (map key (filter test rows))) (sym (node_is le accuracy pairs size leaf is below))
        ((passing_dominated made (number_at tables entry joined) key rows test are_alike).0
        (fewer_dominated (number_at tables entry joined) test (holds size leaf) made rows
        (all_in_range (PassesBoth (number_at tables entry joined) test (holds size leaf)) 0 (row_counts tables entry)
        (λ row low h. ap (in_node size leaf) (sym (same_leaf row (omega (arith, low)))) ∙ h))
        (node_dominates size leaf)))

    pub pair_stands : PairStandsFor pair tables entry key
    pair_stands = record {
      rows = sums;
      whole = subst (λ (s : List ℕ). DominatesKeys (compressed_degrees accuracy s) (map key rows)) (sym seconds) (lists_stand tables accuracy entry joined key tells).whole;
      value = λ value. subst (λ (s : List ℕ). DominatesKeys s (map key (rows_where tables entry (has_value tables entry filter_column value)))) (sym (list_is value))
          ((lists_stand tables accuracy entry joined key tells).equal filter_column value);
      node = node_for_keys;
    }
