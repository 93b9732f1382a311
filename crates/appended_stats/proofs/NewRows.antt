-- Each list that is made from new rows dominates the keys of the new rows that it counts.
use Rattle.std.proofs.Common.{◌≡◌, ℕ, zero, suc, ◌+◌, ◌<◌, ◌≤◌, Bool, true, false, cond, eqb, not, List, [], ◌∷◌, ◌++◌, length, map, refl, ap, sym, ◌∙◌, subst, arith, inl, inr}
use Rattle.std.specs.List.{Contains, filter, range_with_len}
use Rattle.std.proofs.Math.Path.{fun_ext}
use Rattle.std.specs.Ordering.{is_eq}
use Rattle.std.proofs.lemmas.Bool.{cases_Bool, cases_lt, eq-eqb, false≢true, ne_eqb}
use Rattle.std.proofs.lemmas.List.{length-map}
use Rattle.std.proofs.lemmas.List.Sums.{count_by-le-length, sum_by-append, sum_by-cons}
use Rattle.csv_tables.specs.Rows.{Row}
use Rattle.csv_tables.specs.Values.{Value}
use Rattle.cond_stats.specs.Leaves.{last_place}
use Rattle.cond_stats.specs.Lists.{greatest, keys_with, list_where, maxima, whole}
use Rattle.cond_stats.specs.Rows.{filter_values, joined_keys, keys_where}
use Rattle.cond_stats.proofs.Maxima.{above_by_rank, greatest-above, maxima-above}
use Rattle.cond_stats.proofs.Members.{length-keys_where}
use Rattle.degree_lists.proofs.OneMoreKey.{degree-none}
use Rattle.degree_sequences.specs.ByRank.{rank_sum}
use Rattle.degree_sequences.specs.Degrees.{degree, degree_list, different}
use Rattle.degree_sequences.specs.Domination.{DominatesKeys}
use Rattle.degree_sequences.specs.RunningSums.{capped_at, running_sum}
use Rattle.degree_sequences.proofs.ByRank.{running_sum-rank_sum}
use Rattle.degree_sequences.proofs.CompressedLists.{compressed-above, compressed_dominates}
use Rattle.degree_sequences.proofs.Counting.{is_in}
use Rattle.degree_sequences.proofs.DegreeLists.{degree_list_dominates, sum-degree_list}
use Rattle.degree_sequences.proofs.Minima.{IsDescending-capped_at, running_sum-capped_at}
use Rattle.degree_sequences.proofs.RunningSums.{running_sum-le-sum}
use Rattle.filtered_lists.specs.Standing.{value_in_row}
use Rattle.level_bounds.proofs.Lists.{range_within}
use Rattle.relabelling_laws.specs.Relabelling.{AreEqualAlike}
use Rattle.relabelling_laws.proofs.Dominated.{passing_dominated, rows_dominated}
use Rattle.relabelling_laws.proofs.Rows.{zip_of_columns, passing_of_rows}
use Rattle.stats_file.specs.declared.types.Datum.{Datum}
use Rattle.stats_file.specs.declared.types.PairStats.{PairStats}
use Rattle.table_stats.specs.Columns.{first_row, as_first_rows, paired, value_of_row}
use Rattle.table_stats.specs.Keys.{SeparatesValues}
use Rattle.table_stats.proofs.ColumnRows.{values_length, number_at, number_below, number_has, numbers_are, same_number}
use Rattle.table_stats.proofs.EqualValues.{alike_le, alike_on_right, equal_itself, is_equal}
use Rattle.table_stats.proofs.FirstRows.{equal_firsts, first_has, same_first}
use Rattle.stats_file_of_query.specs.Data.{value_of}
use Rattle.stats_file_of_query.specs.Standing.{leaf_cut as cut_at_place, is_value, leaf_of_value}
use Rattle.stats_file_of_query.proofs.Stands.{numbered_pairs}
use Rattle.appended_stats.specs.Appended.{tables_of_rows, values_in}
use Rattle.appended_stats.specs.Grown.{is_frequent, list_for_any_of, other_values}
use Rattle.appended_stats.proofs.NewLists.{descends}

-- ---- the rank-wise sum of two lists dominates the keys of both lists together

pub rank_sum_dominates : (s t keys others : List ℕ) → DominatesKeys s keys → DominatesKeys t others → DominatesKeys (rank_sum s t) (keys ++ others)
rank_sum_dominates s t keys others one two picked apart =
    omega (
      arith,
      sum_by-append (λ (key : ℕ). cond (is_in picked key) 1 0) keys others,
      one picked apart,
      two picked apart,
      running_sum-rank_sum s t (length picked),
    )

pub dominates_none : (s : List ℕ) → DominatesKeys s []
dominates_none s picked apart = omega arith

-- ---- `list_for_any_of` of some values dominates the keys of each of these values

any_above : (k : ℕ) (rows : List (ℕ × ℕ)) (values : List ℕ) (v : ℕ) → is_in values v ≡ true → (r : ℕ)
    → running_sum (degree_list (keys_with v rows)) r ≤ running_sum (capped_at (maxima (map (λ value. degree_list (keys_with value rows)) values)) (greatest (map (degree (filter_values rows)) values))) r
any_above k rows values v inside r =
    let f : ℕ → List ℕ = λ value. degree_list (keys_with value rows) in
    omega (
      arith,
      running_sum-capped_at (maxima (map f values)) (greatest (map (degree (filter_values rows)) values)) r,
      above_by_rank (maxima (map f values)) (f v) (maxima-above f values v inside) r,
      running_sum-le-sum (f v) r,
      sum-degree_list (keys_with v rows),
      length-keys_where (λ other. eqb other v) rows,
      greatest-above (degree (filter_values rows)) values v inside,
    )

pub any_dominates : (k : ℕ) (rows : List (ℕ × ℕ)) (values : List ℕ) (v : ℕ) → is_in values v ≡ true → DominatesKeys (list_for_any_of k rows values) (keys_with v rows)
any_dominates k rows values v inside picked apart =
    let s : List ℕ = maxima (map (λ value. degree_list (keys_with value rows)) values) in
    let n : ℕ = greatest (map (degree (filter_values rows)) values) in
    omega (
      arith,
      degree_list_dominates (keys_with v rows) picked apart,
      any_above k rows values v inside (length picked),
      compressed-above k (capped_at s n) (IsDescending-capped_at s n (descends k rows values)) (length picked),
    )

degree-filtered : (p : ℕ → Bool) (v : ℕ) → p v ≡ true → (column : List ℕ) → degree (filter p column) v ≡ degree column v
degree-filtered p v passes [] = refl
degree-filtered p v passes (x ∷ column) = elim (cases_Bool (p x)) [
  | inl e ↦ rw e (omega (arith, sum_by-cons (λ (y : ℕ). cond (eqb y v) 1 0) x column, sum_by-cons (λ (y : ℕ). cond (eqb y v) 1 0) x (filter p column), degree-filtered p v passes column))
  | inr e ↦ (let other : eqb x v ≡ false = ne_eqb x v (λ same. false≢true (sym e ∙ ap p same ∙ passes)) in
      let none : cond {A = ℕ} (eqb x v) 1 0 ≡ 0 = rw other refl in
      rw e (omega (arith, sum_by-cons (λ (y : ℕ). cond (eqb y v) 1 0) x column, none, degree-filtered p v passes column)))
]

others_dominate : (k : ℕ) (rows : List (ℕ × ℕ)) (p : ℕ → Bool) (v : ℕ) → p v ≡ true
    → DominatesKeys (list_for_any_of k rows (different (filter p (filter_values rows)))) (keys_with v rows)
others_dominate k rows p v passes = elim (cases_Bool (is_in (different (filter p (filter_values rows))) v)) [
  | inl inside ↦ any_dominates k rows (different (filter p (filter_values rows))) v inside
  | inr missing ↦ (λ picked apart.
      omega (
        arith,
        degree-none (filter p (filter_values rows)) v missing,
        degree-filtered p v passes (filter_values rows),
        length-keys_where (λ other. eqb other v) rows,
        count_by-le-length (is_in picked) (keys_with v rows),
      ))
]

none_pass : (test : ℕ → Bool) (rows : List ℕ) → ((row : ℕ) → Contains rows row → test row ≡ false) → filter test rows ≡ []
none_pass test [] fails = refl
none_pass test (row ∷ rows) fails =
    let e : test row ≡ false = fails row (zero, omega arith, refl) in
    rw e (none_pass test rows (λ other has. fails other (suc has.0, omega (arith, has.1), has.2)))

-- ---- the filter values and joined keys of the new rows

module _ (new : List Row) (k filter_column joined : ℕ) where
  abbrev filters : List Value
  filters = values_in new filter_column

  abbrev keys : List Value
  keys = values_in new joined

  abbrev pairs : List (ℕ × ℕ)
  pairs = paired filters keys

  abbrev row_count : ℕ
  row_count = length new

  abbrev rows : List ℕ
  rows = range_with_len 0 row_count

  abbrev of_row : ℕ → Value
  of_row n = value_of_row filters n

  abbrev filter_value_of : ℕ → Value
  filter_value_of row = value_in_row (tables_of_rows new) 0 filter_column row

  abbrev number : ℕ → ℕ
  number row = number_at (tables_of_rows new) 0 filter_column row

  abbrev joined_number : ℕ → ℕ
  joined_number row = number_at (tables_of_rows new) 0 joined row

  below : (row : ℕ) → Contains rows row → row < row_count
  below row has = omega (arith, (range_within 0 row_count row has).1)

  -- if two values are equal, the test gives the same result for both
  abbrev pub IsAlike : (Value → Bool) → Type 0
  IsAlike test = (a b : Value) → is_equal a b ≡ true → test a ≡ test b

  passing_are : (test : Value → Bool) → IsAlike test → keys_where (λ n. test (of_row n)) pairs ≡ map joined_number (filter (λ row. test (filter_value_of row)) rows)
  passing_are test alike =
      ap (keys_where (λ n. test (of_row n))) (numbered_pairs (tables_of_rows new) 0 filter_column joined)
      ∙ passing_of_rows number joined_number rows (λ row. test (filter_value_of row)) (λ n. test (of_row n))
      (λ row has. alike (of_row (number row)) (filter_value_of row) (number_has (tables_of_rows new) 0 filter_column row (below row has)))

  all_are : joined_keys pairs ≡ map joined_number rows
  all_are =
      (zip_of_columns (as_first_rows filters) (as_first_rows keys)
      (omega (arith, length-map filters (first_row filters), length-map keys (first_row keys), values_length (tables_of_rows new) 0 filter_column, values_length (tables_of_rows new) 0 joined))).1
      ∙ numbers_are (tables_of_rows new) 0 joined

  -- a value is coded by the number of the first row that has it
  number_tells : (value : Value) (row : ℕ) → row < row_count → eqb (number row) (first_row filters value) ≡ is_equal (filter_value_of row) value
  number_tells value row low = elim (cases_Bool (is_equal (filter_value_of row) value)) [
    | inl e ↦ eq-eqb (number row) (first_row filters value) (same_first filters (filter_value_of row) value e) ∙ sym e
    | inr e ↦ ne_eqb (number row) (first_row filters value) (λ same. false≢true (sym e ∙ equal_firsts filters (filter_value_of row) value (number_below (tables_of_rows new) 0 filter_column row low) same)) ∙ sym e
  ]

  with_are : (value : Value) → keys_with (first_row filters value) pairs ≡ map joined_number (filter (λ row. is_equal (filter_value_of row) value) rows)
  with_are value =
      ap (keys_where (λ other. eqb other (first_row filters value))) (numbered_pairs (tables_of_rows new) 0 filter_column joined)
      ∙ passing_of_rows number joined_number rows (λ row. is_equal (filter_value_of row) value) (λ other. eqb other (first_row filters value)) (λ row has. number_tells value row (below row has))

  -- ---- domination, for any keys that are equal exactly if the values of the joined column are equal

  module _ (key : ℕ → ℕ) (tells : SeparatesValues (tables_of_rows new) 0 joined key) where
    are_alike : AreEqualAlike joined_number key rows
    are_alike row other has also =
        let low : row < row_count = below row has in
        let low_too : other < row_count = below other also in (
          (λ same. (tells row other low low_too).1
              (equal_firsts keys (value_in_row (tables_of_rows new) 0 joined row) (value_in_row (tables_of_rows new) 0 joined other) (number_below (tables_of_rows new) 0 joined row low) same)),
          (λ same. same_number (tables_of_rows new) 0 joined row other ((tells row other low low_too).0 same)),
        )

    pub whole_dominates : DominatesKeys (whole k pairs) (map key rows)
    whole_dominates =
        (rows_dominated (whole k pairs) joined_number key rows are_alike).0 (subst (DominatesKeys (whole k pairs)) all_are (compressed_dominates k (joined_keys pairs)))

    pub where_dominates : (test : Value → Bool) → IsAlike test → DominatesKeys (list_where k (λ n. test (of_row n)) pairs) (map key (filter (λ row. test (filter_value_of row)) rows))
    where_dominates test alike =
        let made : List ℕ = list_where k (λ n. test (of_row n)) pairs in
        (passing_dominated made joined_number key rows (λ row. test (filter_value_of row)) are_alike).0
        (subst (DominatesKeys made) (passing_are test alike) (compressed_dominates k (keys_where (λ n. test (of_row n)) pairs)))

    pub rest_dominates : (frequent : List (Datum × List ℕ)) (value : Value) → is_frequent frequent value ≡ false
        → DominatesKeys (list_for_any_of k pairs (other_values of_row pairs frequent)) (map key (filter (λ row. is_equal (filter_value_of row) value) rows))
    rest_dominates frequent value rare =
        let made : List ℕ = list_for_any_of k pairs (other_values of_row pairs frequent) in
        let n : ℕ = first_row filters value in
        elim (cases_lt n (length filters)) [
          | inl there ↦ (let other : not (is_frequent frequent (of_row n)) ≡ true = ap not (frequent_alike frequent (of_row n) value (first_has filters value there) ∙ rare) in
              (passing_dominated made joined_number key rows (λ row. is_equal (filter_value_of row) value) are_alike).0
              (subst (DominatesKeys made) (with_are value) (others_dominate k pairs (λ m. not (is_frequent frequent (of_row m))) n other)))
          | inr past ↦ subst (λ (s : List ℕ). DominatesKeys made (map key s)) (sym (none_pass (λ row. is_equal (filter_value_of row) value) rows
              (λ row has. value_in_no_row row (below row has) past))) (dominates_none made)
        ]
      where
        frequent_alike : (all : List (Datum × List ℕ)) (a b : Value) → is_equal a b ≡ true → is_frequent all a ≡ is_frequent all b
        frequent_alike [] a b same = refl
        frequent_alike (found ∷ all) a b same =
            let here : is_value a found.0 ≡ is_value b found.0 = ap is_eq (alike_on_right a b same (value_of found.0)) in
            rw (here, frequent_alike all a b same) refl

        value_in_no_row : (row : ℕ) → row < row_count → length filters ≤ first_row filters value → is_equal (filter_value_of row) value ≡ false
        value_in_no_row row low past = elim (cases_Bool (is_equal (filter_value_of row) value)) [
          | inl e ↦ absurd (omega (arith, past, number_below (tables_of_rows new) 0 filter_column row low, same_first filters (filter_value_of row) value e))
          | inr e ↦ e
        ]

-- ---- tests whose results for equal values are equal

pub value_alike : (value : Datum) (a b : Value) → is_equal a b ≡ true → is_value a value ≡ is_value b value
value_alike value a b same = ap is_eq (alike_on_right a b same (value_of value))

pub leaf_alike : (pair : PairStats) (a b : Value) → is_equal a b ≡ true → leaf_of_value pair a ≡ leaf_of_value pair b
leaf_alike pair a b same =
    ap (λ (p : ℕ → Bool). last_place p (range_with_len 0 (length pair.cuts)))
    (fun_ext (λ (leaf : ℕ). alike_le (cut_at_place pair leaf) (cut_at_place pair leaf) a b (equal_itself (cut_at_place pair leaf)) same))
