-- Counts of the rows of an entry that pass tests, and of the rows that pass the entry's own conjuncts.
use Rattle.std.proofs.Common.{◌≡◌, ℕ, ◌+◌, ◌≤◌, Bool, true, false, not, ◌&&◌, ◌||◌, eqb, cond, List, [], ◌∷◌, map, length, refl, ap, sym, ◌∙◌, subst, inl, inr, arith}
use Rattle.std.specs.List.{AllByRecursion, count_by, filter, list_all, list_any, range_with_len, sum}
use Rattle.std.proofs.lemmas.Bool.{cases_Bool, eqb-true, and_parts, and_from, or_cases, false≢true}
use Rattle.std.proofs.lemmas.List.{length-map}
use Rattle.std.proofs.lemmas.List.Sums.{sum_by-cons}
use Rattle.std.proofs.lemmas.List.FromFn.{length-range_with_len}
use Rattle.degree_sequences.proofs.DegreeLists.{length_at_most_sum}
use Rattle.degree_sequences.specs.Domination.{DominatesKeys}
use Rattle.entry_sets.specs.Naming.{are_within}
use Rattle.join_graph.specs.Conjuncts.{is_own_conjunct}
use Rattle.query_types.specs.declared.types.Cond.{Cond}
use Rattle.query_types.specs.Named.{entries_named}
use Rattle.csv_tables.specs.Values.{Value}
use Rattle.sql_meaning.specs.Answers.{conjunct_of}
use Rattle.sql_meaning.specs.Conditions.{cond_holds}
use Rattle.sql_meaning.specs.Levels as levels
use Rattle.sql_meaning.specs.Tables.{Tables, row_counts}
use Rattle.degree_sequences.proofs.Counting.{all-count}
use Rattle.filtered_lists.specs.Filters.{Conjunction, one_conjunction, and_answer, conjunction_of, own_conjuncts, filtered}
use Rattle.filtered_lists.specs.Lists.{ColumnLists, RowCounts, count_answers, filtered_list, row_bound}
use Rattle.filtered_lists.specs.Ranges.{Range}
use Rattle.filtered_lists.specs.Standing.{ListsStandFor, CountsStandFor, has_value, is_in_range, rows_where, scan_of}
use Rattle.filtered_lists.proofs.Lists.{running_sums, running_sum-filtered}
use Rattle.filtered_lists.proofs.Passing.{Passes, row_tests, and_passes, joined_passes, passes_if_holds}
use Rattle.filtered_lists.proofs.Related.{filtered_related}

-- ---- the number of counted rows among the rows that pass a test

module _ (counted : ℕ → Bool) where
  abbrev counted_rows : List ℕ → ℕ
  counted_rows rows = count_by counted rows

  count_of_one : ℕ → ℕ
  count_of_one row = cond (counted row) 1 0

  counted_rows-cons : (row : ℕ) (rows : List ℕ) → counted_rows (row ∷ rows) ≡ count_of_one row + counted_rows rows
  unfolding count_of_one
  counted_rows-cons row rows = sum_by-cons (λ (x : ℕ). cond (counted x) 1 0) row rows

  pub fewer_pass : (p q : ℕ → Bool) → ((row : ℕ) → p row ≡ true → q row ≡ true) → (rows : List ℕ) → counted_rows (filter p rows) ≤ counted_rows (filter q rows)
  fewer_pass p q h [] = omega arith
  fewer_pass p q h (row ∷ rows) = elim (cases_Bool (p row)) [
    | inl t ↦ rw (t, h row t) (omega (arith, counted_rows-cons row (filter p rows), counted_rows-cons row (filter q rows), fewer_pass p q h rows))
    | inr n ↦ elim (cases_Bool (q row)) [
      | inl t ↦ rw (n, t) (omega (arith, counted_rows-cons row (filter q rows), fewer_pass p q h rows))
      | inr m ↦ rw (n, m) (fewer_pass p q h rows)
    ]
  ]

  pub either_passes : (p q : ℕ → Bool) (rows : List ℕ) → counted_rows (filter (λ row. p row || q row) rows) ≤ counted_rows (filter p rows) + counted_rows (filter q rows)
  either_passes p q [] = omega arith
  either_passes p q (row ∷ rows) = elim (cases_Bool (p row)) [
    | inl t ↦ elim (cases_Bool (q row)) [
      | inl u ↦ rw (t, u) (omega (arith, counted_rows-cons row (filter (λ row. p row || q row) rows), counted_rows-cons row (filter p rows), counted_rows-cons row (filter q rows), either_passes p q rows))
      | inr m ↦ rw (t, m) (omega (arith, counted_rows-cons row (filter (λ row. p row || q row) rows), counted_rows-cons row (filter p rows), either_passes p q rows))
    ]
    | inr n ↦ elim (cases_Bool (q row)) [
      | inl u ↦ rw (n, u) (omega (arith, counted_rows-cons row (filter (λ row. p row || q row) rows), counted_rows-cons row (filter q rows), either_passes p q rows))
      | inr m ↦ rw (n, m) (either_passes p q rows)
    ]
  ]

  none_pass_false : (rows : List ℕ) → counted_rows (filter (λ row. false) rows) ≤ 0
  none_pass_false [] = omega arith
  none_pass_false (row ∷ rows) = none_pass_false rows

  pub all_pass : (rows : List ℕ) → filter (λ row. true) rows ≡ rows
  all_pass [] = refl
  all_pass (row ∷ rows) = ap (λ (rest : List ℕ). row ∷ rest) (all_pass rows)

-- ---- conjuncts that name one entry

pub names_only_entry : (entry : ℕ) (xs : List ℕ) → are_within xs (entry ∷ []) ≡ true → AllByRecursion (λ e. e ≡ entry) xs
names_only_entry entry [] h = tt
names_only_entry entry (x ∷ xs) h =
    let parts = and_parts (eqb x entry || false) (are_within xs (entry ∷ [])) h in (
      elim (or_cases (eqb x entry) false parts.0) [ inl t ↦ eqb-true x entry t | inr f ↦ absurd (false≢true f) ],
      names_only_entry entry xs parts.1,
    )

implied : (b c : Bool) → b ≡ true → (not b || c) ≡ true → c ≡ true
implied b c h k = rw h at k

module _ (tables : Tables) (entry : ℕ) where
  -- the row passes the entry's own conjuncts
  abbrev passes_own_conjuncts : List Cond → ℕ → Bool
  passes_own_conjuncts conjuncts row = list_all (λ c. not (levels.is_own_conjunct c entry) || c.holds (λ e. row)) (map (conjunct_of tables) conjuncts)

  own_pass : (row : ℕ) (conjuncts : List Cond) → passes_own_conjuncts conjuncts row ≡ true
      → AllByRecursion (Passes tables entry row) (map (λ c. conjunction_of (row_tests tables entry) c true) (own_conjuncts entry conjuncts))
  own_pass row [] h = tt
  own_pass row (c ∷ conjuncts) h =
      let parts = and_parts (not (levels.is_own_conjunct (conjunct_of tables c) entry) || cond_holds tables (λ e. row) c) (passes_own_conjuncts conjuncts row) h in
      elim (cases_Bool (is_own_conjunct entry c)) [
        | inl t ↦ rw t (
          passes_if_holds tables entry row c
              (names_only_entry entry (entries_named c) (and_parts (are_within (entries_named c) (entry ∷ [])) (not (are_within (entries_named c) [])) t).0) true
              (implied (levels.is_own_conjunct (conjunct_of tables c) entry) (cond_holds tables (λ e. row) c) t parts.0),
          own_pass row conjuncts parts.1,
        )
        | inr n ↦ rw n (own_pass row conjuncts parts.1)
      ]

  own_pass_filtered : (conjuncts : List Cond) (row : ℕ) → passes_own_conjuncts conjuncts row ≡ true → filtered (row_tests tables entry) entry conjuncts row ≡ true
  own_pass_filtered conjuncts row h =
      let members : List (Conjunction (ℕ → Bool)) = map (λ c. conjunction_of (row_tests tables entry) c true) (own_conjuncts entry conjuncts) in
      and_from (and_answer (row_tests tables entry) (one_conjunction members) row) true (and_passes tables entry row (one_conjunction members) (joined_passes tables entry row members (own_pass row conjuncts h))) refl

  -- ---- if no number of the statistics is below its counted rows, the row bound isn't below those of the scan

  pub record AreEnough (counted : ℕ → Bool) (counts : RowCounts) : Type 0 where
    pub whole : count_by counted (range_with_len 0 (row_counts tables entry)) ≤ counts.whole
    pub equal : (column : ℕ) (value : Value) → count_by counted (rows_where tables entry (has_value tables entry column value)) ≤ counts.equal column value
    pub range : (range : Range) → count_by counted (rows_where tables entry (is_in_range tables entry range)) ≤ counts.range range

  pub scan_is_counted : (counted : ℕ → Bool) (counts : RowCounts) (conjuncts : List Cond) → AreEnough counted counts
      → count_by counted (scan_of tables entry conjuncts) ≤ row_bound counts entry conjuncts
  scan_is_counted counted counts conjuncts enough =
      let rows : List ℕ = range_with_len 0 (row_counts tables entry) in
      let passing : count_by counted (rows_where tables entry (filtered (row_tests tables entry) entry conjuncts)) ≤ row_bound counts entry conjuncts =
      filtered_related (ℕ → Bool) ℕ (λ test n. count_by counted (filter test rows) ≤ n) (row_tests tables entry) (count_answers counts) (record {
        whole = subst (λ (xs : List ℕ). count_by counted xs ≤ counts.whole) (sym (all_pass counted rows)) enough.whole;
        equal = enough.equal;
        range = enough.range;
        both = λ p q m n h k. omega (arith, h, k, fewer_pass counted (λ row. p row && q row) p (λ row t. (and_parts (p row) (q row) t).0) rows, fewer_pass counted (λ row. p row && q row) q (λ row t. (and_parts (p row) (q row) t).1) rows);
        none = none_pass_false counted rows;
        either = λ p q m n h k. omega (arith, h, k, either_passes counted p q rows);
      }) entry conjuncts in
      omega (arith, passing, fewer_pass counted (passes_own_conjuncts conjuncts) (filtered (row_tests tables entry) entry conjuncts) (own_pass_filtered conjuncts) rows)

-- ---- filtered lists and row bounds are never too low

number-map : (test : ℕ → Bool) (key : ℕ → ℕ) (rows : List ℕ) → count_by test (map key rows) ≡ count_by (λ row. test (key row)) rows
number-map test key [] = refl
number-map test key (row ∷ rows) =
    sum_by-cons (λ (x : ℕ). cond (test x) 1 0) (key row) (map key rows) ∙ ap (λ n. cond (test (key row)) 1 0 + n) (number-map test key rows)
    ∙ sym (sum_by-cons (λ (x : ℕ). cond (test (key x)) 1 0) row rows)

pub list_dominates : (lists : ColumnLists) (tables : Tables) (entry : ℕ) (key : ℕ → ℕ) (conjuncts : List Cond) → ListsStandFor lists tables entry key
    → DominatesKeys (filtered_list lists entry conjuncts) (map key (scan_of tables entry conjuncts))
list_dominates lists tables entry key conjuncts stands picked apart =
    let test : ℕ → Bool = λ k. list_any (λ a. eqb k a) picked in
    let counted : ℕ → Bool = λ row. test (key row) in
    let enough : AreEnough tables entry counted (running_sums lists (length picked)) = record {
      whole = omega (arith, number-map test key (range_with_len 0 (row_counts tables entry)), stands.whole picked apart);
      equal = λ column value. omega (arith, number-map test key (rows_where tables entry (has_value tables entry column value)), stands.equal column value picked apart);
      range = λ range. omega (arith, number-map test key (rows_where tables entry (is_in_range tables entry range)), stands.range range picked apart);
    } in
    omega (
      arith,
      number-map test key (scan_of tables entry conjuncts),
      scan_is_counted tables entry counted (running_sums lists (length picked)) conjuncts enough,
      running_sum-filtered lists (length picked) entry conjuncts,
    )

pub sum_is_enough : (lists : ColumnLists) (tables : Tables) (entry : ℕ) (key : ℕ → ℕ) (conjuncts : List Cond) → ListsStandFor lists tables entry key
    → length (scan_of tables entry conjuncts) ≤ sum (filtered_list lists entry conjuncts)
sum_is_enough lists tables entry key conjuncts stands =
    omega (
      arith,
      length_at_most_sum (filtered_list lists entry conjuncts) (map key (scan_of tables entry conjuncts)) (list_dominates lists tables entry key conjuncts stands),
      length-map (scan_of tables entry conjuncts) key,
    )

pub count_is_enough : (counts : RowCounts) (tables : Tables) (entry : ℕ) (conjuncts : List Cond) → CountsStandFor counts tables entry
    → length (scan_of tables entry conjuncts) ≤ row_bound counts entry conjuncts
count_is_enough counts tables entry conjuncts stands =
    let enough : AreEnough tables entry (λ row. true) counts = record {
      whole = omega (arith, all-count (range_with_len 0 (row_counts tables entry)), range_length (row_counts tables entry) 0, stands.whole);
      equal = λ column value. omega (arith, all-count (rows_where tables entry (has_value tables entry column value)), stands.equal column value);
      range = λ range. omega (arith, all-count (rows_where tables entry (is_in_range tables entry range)), stands.range range);
    } in
    omega (arith, all-count (scan_of tables entry conjuncts), scan_is_counted tables entry (λ row. true) counts conjuncts enough)
  where
    range_length : (n from : ℕ) → length (range_with_len from n) ≡ n
    range_length n from = length-range_with_len from n
