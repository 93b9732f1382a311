-- The runs of equal values, sorted by the frequency of their values, are what `AreRunsByFrequency` asks for.
use Rattle.std.proofs.Common.{◌≡◌, ℕ, suc, ◌+◌, ◌-◌, ◌*◌, ◌^◌, ◌<◌, ◌≤◌, Bool, true, false, cond, eqb, ltb, leb, List, [], ◌∷◌, map, length, get_or, refl, ap, sym, ◌∙◌, subst, arith, inl, inr, ◌⊎◌}
use Rattle.std.specs.List.{All, AllByRecursion}
use Rattle.std.specs.List.Sorted.{IsPermutation}
use Rattle.std.proofs.Math.Nat.{mul-le-mul_right}
use Rattle.std.proofs.lemmas.Bool.{cases_Bool, cases_lt, cases_order, eqb-true, eq-eqb, ne_eqb, false≢true, lt-ltb, le-ltb, le-leb, lt-leb}
use Rattle.std.proofs.lemmas.List.{get_or-map, length-map}
use Rattle.std.proofs.lemmas.List.Sorted.{All-permutation, sum_by-IsPermutation, IsPermutation-map}
use Rattle.std.proofs.lemmas.List.Sums.{position_or_len_is, count_by-le-length}
use Rattle.degree_sequences.specs.Degrees.{degree, different}
use Rattle.degree_sequences.proofs.Rearranged.{degrees_positive}
use Rattle.cond_stats.specs.declared.groups.ValueRun.{ValueRun}
use Rattle.cond_stats.specs.Frequency.{first_row, comes_before}
use Rattle.cond_stats.specs.Order.{KeepsOrderOf, AreInValueOrder}
use Rattle.cond_stats.specs.Runs.{IsRun, AreRunsOfNumbers, AreRunsByFrequency, value_of_run}
use Rattle.cond_stats.specs.Windows.{IsWindow}
use Rattle.cond_stats.proofs.InOrderFacts.{has_degree, place_of_degree, degree-different, value_at, as_many_places, places_within, value_has_degree, number_at, place_found, same_value, same_number}
use Rattle.cond_stats.proofs.RunsFound.{number_of_run}
use Rattle.cond_stats.proofs.Sorting.{Rises, rises_from_places, degree-cons, holds_of_member, in_order_is}
use Rattle.cond_stats.proofs.SortedPairs.{PairLe}
use Rattle.cond_stats.proofs.WindowKeys.{window_count}

-- ---- the order of frequency as a number

pub first_row_has_value : (column : List ℕ) (v : ℕ) → 0 < degree column v → (first_row column v < length column) × (get_or column (first_row column v) 0 ≡ v)
first_row_has_value [] v some = absurd (omega arith)
first_row_has_value (x ∷ xs) v some = elim (cases_Bool (eqb x v)) [
  | inl e ↦ rw e (omega arith, eqb-true x v e)
  | inr e ↦ (let none : cond {A = ℕ} (eqb x v) 1 0 ≡ 0 = rw e refl in
      let rest = first_row_has_value xs v (omega (arith, some, none, degree-cons x xs v)) in
      rw e (omega (arith, rest.0), (let at : 1 + first_row xs v ≡ suc (first_row xs v) = omega arith in ap (λ j. get_or (x ∷ xs) j 0) at) ∙ rest.1))
]

-- One number made of a value's frequency and its first row. A value with a smaller number comes first
abbrev pub frequency_number : List ℕ → ℕ → ℕ
frequency_number column v = (length column - degree column v) * (length column + 1) + first_row column v

lexicographic : (n a b c d : ℕ) → b ≤ n → d ≤ n → (a < c) ⊎ ((a ≡ c) × (b ≤ d)) → a * (n + 1) + b ≤ c * (n + 1) + d
lexicographic n a b c d hb hd how = elim how [
  | inl h ↦ (let row : suc a * (n + 1) ≤ c * (n + 1) = mul-le-mul_right (n + 1) (omega arith) in omega (arith, row))
  | inr h ↦ (let row : a * (n + 1) ≡ c * (n + 1) = ap (λ m. m * (n + 1)) h.0 in omega (arith, row, h.1))
]

greater_pair_number : (n a b c d : ℕ) → b ≤ n → d ≤ n → (c < a) ⊎ ((a ≡ c) × (d < b)) → c * (n + 1) + d < a * (n + 1) + b
greater_pair_number n a b c d hb hd how = elim how [
  | inl h ↦ (let row : suc c * (n + 1) ≤ a * (n + 1) = mul-le-mul_right (n + 1) (omega arith) in omega (arith, row))
  | inr h ↦ (let row : a * (n + 1) ≡ c * (n + 1) = ap (λ m. m * (n + 1)) h.0 in omega (arith, row, h.1))
]

pub frequency_number_keeps_order : (column : List ℕ) → KeepsOrderOf (comes_before column) column (frequency_number column)
frequency_number_keeps_order column = record {
  order = λ a b a_there b_there. by a b a_there b_there (cases_order (degree column a) (degree column b));
  same = λ a b a_there b_there same. apart a b a_there b_there same;
}
  where
    few : (a : ℕ) → degree column a ≤ length column
    few a = count_by-le-length (λ key. eqb key a) column

    low : (a : ℕ) → 0 < degree column a → first_row column a ≤ length column
    low a some = omega (arith, (first_row_has_value column a some).0)

    firsts : (a b : ℕ) → 0 < degree column a → 0 < degree column b → degree column a ≡ degree column b
        → leb (first_row column a) (first_row column b) ≡ leb (frequency_number column a) (frequency_number column b)
    firsts a b a_there b_there same = elim (cases_lt (first_row column b) (first_row column a)) [
      | inl h ↦ lt-leb (first_row column a) (first_row column b) h
          ∙ sym (lt-leb (frequency_number column a) (frequency_number column b)
          (greater_pair_number (length column) (length column - degree column a) (first_row column a) (length column - degree column b) (first_row column b)
          (low a a_there) (low b b_there) (inr (ap (λ d. length column - d) same, h))))
      | inr h ↦ le-leb (first_row column a) (first_row column b) h
          ∙ sym (le-leb (frequency_number column a) (frequency_number column b)
          (lexicographic (length column) (length column - degree column a) (first_row column a) (length column - degree column b) (first_row column b)
          (low a a_there) (low b b_there) (inr (ap (λ d. length column - d) same, h))))
    ]

    by : (a b : ℕ) → 0 < degree column a → 0 < degree column b → (degree column a ≡ degree column b) ⊎ ((degree column a < degree column b) ⊎ (degree column b < degree column a))
        → comes_before column a b ≡ leb (frequency_number column a) (frequency_number column b)
    by a b a_there b_there (inl same) =
        let no : ltb (degree column b) (degree column a) ≡ false = le-ltb (degree column b) (degree column a) (omega arith) in
        let yes : eqb (degree column a) (degree column b) ≡ true = eq-eqb (degree column a) (degree column b) same in
        rw (no, yes) (firsts a b a_there b_there same)
    by a b a_there b_there (inr (inl less)) =
        let no : ltb (degree column b) (degree column a) ≡ false = le-ltb (degree column b) (degree column a) (omega arith) in
        let other : eqb (degree column a) (degree column b) ≡ false = ne_eqb (degree column a) (degree column b) (λ same. omega arith) in
        rw (no, other) (sym (lt-leb (frequency_number column a) (frequency_number column b)
        (greater_pair_number (length column) (length column - degree column a) (first_row column a) (length column - degree column b) (first_row column b)
        (low a a_there) (low b b_there) (inl (omega (arith, few a, few b))))))
    by a b a_there b_there (inr (inr more)) =
        let yes : ltb (degree column b) (degree column a) ≡ true = lt-ltb (degree column b) (degree column a) more in
        rw yes (sym (le-leb (frequency_number column a) (frequency_number column b)
        (lexicographic (length column) (length column - degree column a) (first_row column a) (length column - degree column b) (first_row column b)
        (low a a_there) (low b b_there) (inl (omega (arith, few a, few b))))))

    apart : (a b : ℕ) → 0 < degree column a → 0 < degree column b → frequency_number column a ≡ frequency_number column b → a ≡ b
    apart a b a_there b_there same = elim (cases_order (first_row column a) (first_row column b)) [
      | inl e ↦ sym (first_row_has_value column a a_there).1 ∙ ap (λ i. get_or column i 0) e ∙ (first_row_has_value column b b_there).1
      | inr differ ↦ elim (cases_order (length column - degree column a) (length column - degree column b)) [
        | inl rows ↦ elim differ [
          | inl h ↦ absurd (omega (arith, same, greater_pair_number (length column) (length column - degree column b) (first_row column b) (length column - degree column a) (first_row column a) (low b b_there) (low a a_there) (inr (sym rows, h))))
          | inr h ↦ absurd (omega (arith, same, greater_pair_number (length column) (length column - degree column a) (first_row column a) (length column - degree column b) (first_row column b) (low a a_there) (low b b_there) (inr (rows, h))))
        ]
        | inr other ↦ elim other [
          | inl h ↦ absurd (omega (arith, same, greater_pair_number (length column) (length column - degree column b) (first_row column b) (length column - degree column a) (first_row column a) (low b b_there) (low a a_there) (inl h)))
          | inr h ↦ absurd (omega (arith, same, greater_pair_number (length column) (length column - degree column a) (first_row column a) (length column - degree column b) (first_row column b) (low a a_there) (low b b_there) (inl h)))
        ]
      ]
    ]

-- ---- the runs of a column, sorted by frequency

module _ {at_most : ℕ → ℕ → Bool} {column numbers places : List ℕ} (order : AreInValueOrder at_most column numbers places) (lengths : length numbers ≡ length places) where
  run_value_at_start : (run : ValueRun) → IsRun numbers places run → value_of_run column run ≡ value_at column places run.start
  run_value_at_start run is = ap (λ p. get_or column p 0) is.first

  start_within : (run : ValueRun) → IsRun numbers places run → run.start < length places
  start_within run is = omega (arith, is.some, is.ends, lengths)

  -- a run is the window of its value: the stretch of `places` with the rows that have this value
  pub window_of_run : (run : ValueRun) → IsRun numbers places run → IsWindow column places (λ v. eqb v (value_of_run column run)) run.start run.count
  window_of_run run is = record {
    ends = omega (arith, is.ends, lengths);
    inside = λ k low high. eq-eqb (value_at column places k) (value_of_run column run)
        (same_value order k run.start (omega (arith, is.ends, lengths)) (start_within run is) (is.alike k low high) ∙ sym (run_value_at_start run is));
    before = λ k low. ne_eqb (value_at column places k) (value_of_run column run)
        (λ same. omega (arith, is.lower k low, start_within run is, same_number order k run.start (omega (arith, start_within run is)) (start_within run is) (same ∙ run_value_at_start run is)));
    after = λ k low high. ne_eqb (value_at column places k) (value_of_run column run)
        (λ same. omega (arith, is.higher k low (omega (arith, lengths)), same_number order k run.start high (start_within run is) (same ∙ run_value_at_start run is)));
  }

  pub value_has_rows : (run : ValueRun) → IsRun numbers places run → 0 < degree column (value_of_run column run)
  value_has_rows run is = subst (λ v. 0 < degree column v) (sym (run_value_at_start run is)) (value_has_degree order run.start (start_within run is))

  pub count_of_run : (run : ValueRun) → IsRun numbers places run → run.count ≡ degree column (value_of_run column run)
  count_of_run run is = window_count column places (λ v. eqb v (value_of_run column run)) run.start run.count order.moved (window_of_run run is)

  first_within : (run : ValueRun) → IsRun numbers places run → run.first < length column
  first_within run is = subst (λ p. p < length column) (sym is.first) (places_within order run.start 0 (start_within run is))

  pub first_of_run : (run : ValueRun) → IsRun numbers places run → run.first ≡ first_row column (value_of_run column run)
  first_of_run run is = sym (position_or_len_is (λ other. eqb other (value_of_run column run)) column run.first 0
      (omega (arith, within))
      (λ q before. ne_eqb (get_or column q 0) (value_of_run column run) (λ same. earlier q before same))
      (λ h. eq-eqb (value_of_run column run) (value_of_run column run) refl))
    where
      within : run.first < length column
      within = subst (λ p. p < length column) (sym is.first) (places_within order run.start 0 (start_within run is))

      earlier : (q : ℕ) → q < run.first → get_or column q 0 ≡ value_of_run column run → ⊥
      earlier q before same =
          let at = place_found order q (omega (arith, within)) in
          let k : ℕ = at.0 in
          let value : value_at column places k ≡ value_at column places run.start = ap (λ p. get_or column p 0) at.2 ∙ same ∙ run_value_at_start run is in
          let number : get_or numbers k 0 ≡ get_or numbers run.start 0 = same_number order k run.start at.1 (start_within run is) value in
          elim (cases_order k run.start) [
            | inl e ↦ omega (arith, before, at.2, is.first, ap (λ j. get_or places j 0) e)
            | inr other ↦ elim other [
              | inl h ↦ omega (arith, is.lower k h, number)
              | inr h ↦ omega (arith, order.ties run.start k h at.1 (sym number), before, at.2, is.first)
            ]
          ]

  numbers_of_values : (runs : List ValueRun) → All (IsRun numbers places) runs → map order.number (map (value_of_run column) runs) ≡ map (number_of_run numbers) runs
  numbers_of_values [] each = refl
  numbers_of_values (run ∷ runs) each =
      let is : IsRun numbers places run = each 0 run (omega arith) in
      let here : order.number (value_of_run column run) ≡ number_of_run numbers run = ap order.number (run_value_at_start run is) ∙ sym (number_at order run.start (start_within run is)) in
      rw (here, numbers_of_values runs (λ k d h. each (suc k) d (omega arith))) refl

  values_have_rows : (runs : List ValueRun) → All (IsRun numbers places) runs → AllByRecursion (λ v. 0 < degree column v) (map (value_of_run column) runs)
  values_have_rows [] each = tt
  values_have_rows (run ∷ runs) each = (value_has_rows run (each 0 run (omega arith)), values_have_rows runs (λ k d h. each (suc k) d (omega arith)))

  degree-of_numbers : (a : ℕ) → 0 < degree column a → (D : List ℕ) → AllByRecursion (λ v. 0 < degree column v) D → degree (map order.number D) (order.number a) ≡ degree D a
  degree-of_numbers a some [] all = refl
  degree-of_numbers a some (v ∷ D) all =
      let ih : degree (map order.number D) (order.number a) ≡ degree D a = degree-of_numbers a some D all.1 in
      let here : eqb (order.number v) (order.number a) ≡ eqb v a = elim (cases_Bool (eqb v a)) [
        | inl e ↦ eq-eqb (order.number v) (order.number a) (ap order.number (eqb-true v a e)) ∙ sym e
        | inr e ↦ ne_eqb (order.number v) (order.number a) (λ same. false≢true (sym e ∙ eq-eqb v a (order.tells.same v a all.0 some same))) ∙ sym e
      ] in
      omega (arith, ih, ap (λ b. cond {A = ℕ} b 1 0) here, degree-cons (order.number v) (map order.number D) (order.number a), degree-cons v D a)

  pub degree-of_values : (runs : List ValueRun) → AreRunsOfNumbers numbers places runs → (a : ℕ) → degree (map (value_of_run column) runs) a ≡ degree (different column) a
  degree-of_values runs are a = elim (cases_lt 0 (degree column a)) [
    | inl some ↦ (let D : List ℕ = map (value_of_run column) runs in
        let place = place_of_degree column a some in
        let at = place_found order place.0 place.1 in
        let value : value_at column places at.0 ≡ a = ap (λ p. get_or column p 0) at.2 ∙ place.2 in
        let number : get_or numbers at.0 0 ≡ order.number a = number_at order at.0 at.1 ∙ ap order.number value in
        let stands : 0 < degree numbers (order.number a) = subst (λ m. 0 < degree numbers m) number (has_degree numbers at.0 (omega (arith, at.1, lengths))) in
        let one_number : degree (different numbers) (order.number a) ≡ 1 = degree-different numbers (order.number a) ∙ rw (lt-ltb 0 (degree numbers (order.number a)) stands) refl in
        let one_value : degree (different column) a ≡ 1 = degree-different column a ∙ rw (lt-ltb 0 (degree column a) some) refl in
        sym (degree-of_numbers a some D (values_have_rows runs are.each))
        ∙ ap (λ s. degree s (order.number a)) (numbers_of_values runs are.each ∙ are.all)
        ∙ one_number ∙ sym one_value)
    | inr none ↦ (let no_value : degree (different column) a ≡ 0 = degree-different column a ∙ rw (le-ltb 0 (degree column a) none) refl in
        let D : List ℕ = map (value_of_run column) runs in
        let no_group : degree D a ≤ 0 = elim (cases_lt 0 (degree D a)) [
          | inl h ↦ absurd (omega (arith, none, holds_of_member (λ v. 0 < degree column v) D a (values_have_rows runs are.each) h))
          | inr h ↦ h
        ] in
        omega (arith, no_group, no_value))
  ]

  pub groups_found : (runs groups : List ValueRun) → AreRunsOfNumbers numbers places runs → IsPermutation runs groups
      → Rises (frequency_number column) (map (value_of_run column) groups) → AreRunsByFrequency column places groups
  groups_found runs groups are moved rises = record {
    values = in_order_is (frequency_number column) (comes_before column) column (different column) (map (value_of_run column) groups) (frequency_number_keeps_order column) (degrees_positive column)
        (λ a. sum_by-IsPermutation (λ y. cond (eqb y a) 1 0) (map (value_of_run column) runs) (map (value_of_run column) groups) (IsPermutation-map (value_of_run column) runs groups moved)
        ∙ degree-of_values runs are a)
        rises;
    firsts = All-permutation (λ group. group.first < length column) runs groups moved (λ k d h. first_within (get_or runs k d) (are.each k d h));
    windows = All-permutation (λ group. IsWindow column places (λ v. eqb v (value_of_run column group)) group.start group.count) runs groups moved
        (λ k d h. window_of_run (get_or runs k d) (are.each k d h));
  }

  no_group : ValueRun
  no_group = record { first = 0; start = 0; count = 0 }

  -- the code sorts by 4294967295 - count, so that greater counts come first
  pub groups_sorted : (runs groups : List ValueRun) → length places < 2 ^ 32 → AreRunsOfNumbers numbers places runs → IsPermutation runs groups
      → ((i j : ℕ) (d : ValueRun) → i ≤ j → j < length groups → PairLe (4294967295 - (get_or groups i d).count) (get_or groups i d).first (4294967295 - (get_or groups j d).count) (get_or groups j d).first)
      → AreRunsByFrequency column places groups
  groups_sorted runs groups short are moved up = groups_found runs groups are moved
      (rises_from_places (frequency_number column) (map (value_of_run column) groups)
      (λ i j low within. rises i j low (omega (arith, within, length-map groups (value_of_run column)))))
    where
      each : All (IsRun numbers places) groups
      each = All-permutation (IsRun numbers places) runs groups moved are.each

      at : (i : ℕ) → i < length groups → get_or (map (value_of_run column) groups) i 0 ≡ value_of_run column (get_or groups i no_group)
      at i h = get_or-map (value_of_run column) groups i no_group 0 h

      low_first : (g : ValueRun) → IsRun numbers places g → g.first ≤ length column
      low_first g is = omega (arith, first_of_run g is, (first_row_has_value column (value_of_run column g) (value_has_rows g is)).0)

      by_pair : (n a b c d e f : ℕ) → n < 2 ^ 32 → a ≤ n → c ≤ n → PairLe (4294967295 - a) b (4294967295 - c) d → PairLe (n - a) b (n - c) d
      by_pair n a b c d e f short la lc (inl h) = inl (omega arith)
      by_pair n a b c d e f short la lc (inr h) = inr (omega (arith, h.0), h.1)

      rises : (i j : ℕ) → i ≤ j → j < length groups → frequency_number column (get_or (map (value_of_run column) groups) i 0) ≤ frequency_number column (get_or (map (value_of_run column) groups) j 0)
      rises i j low within =
          let g : ValueRun = get_or groups i no_group in
          let h : ValueRun = get_or groups j no_group in
          let g_is : IsRun numbers places g = each i no_group (omega arith) in
          let h_is : IsRun numbers places h = each j no_group within in
          let n : ℕ = length column in
          let number : (r : ValueRun) → IsRun numbers places r → frequency_number column (value_of_run column r) ≡ (n - r.count) * (n + 1) + r.first = λ r is.
          ap (λ m. (n - m) * (n + 1) + first_row column (value_of_run column r)) (sym (count_of_run r is)) ∙ ap (λ m. (n - r.count) * (n + 1) + m) (sym (first_of_run r is)) in
          let pair : PairLe (n - g.count) g.first (n - h.count) h.first =
          by_pair n g.count g.first h.count h.first 0 0 (omega (arith, as_many_places order)) (omega (arith, g_is.ends, lengths, as_many_places order)) (omega (arith, h_is.ends, lengths, as_many_places order)) (up i j no_group low within) in
          omega (
            arith,
            ap (frequency_number column) (at i (omega arith)),
            ap (frequency_number column) (at j within),
            number g g_is,
            number h h_is,
            lexicographic n (n - g.count) g.first (n - h.count) h.first (low_first g g_is) (low_first h h_is) pair,
          )
