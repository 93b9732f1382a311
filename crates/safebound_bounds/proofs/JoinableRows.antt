-- `joinable_rows`, the most rows of an entry that the equalities of a set can join, is at most the entry's row bound. It is at least the number of
-- rows that have a value in each column of the entry that the equalities name.
use Rattle.std.proofs.Common.{◌≡◌, ℕ, suc, ◌+◌, ◌<◌, ◌≤◌, min, Bool, true, false, cond, eqb, List, [], ◌∷◌, length, map, get_or, refl, sym, subst, inl, inr, arith}
use Rattle.std.specs.Prelude.{if◌then◌else◌}
use Rattle.std.specs.List.{AllByRecursion, range_with_len}
use Rattle.std.proofs.lemmas.Bool.{cases_lt, eqb-true}
use Rattle.std.proofs.lemmas.List.{get_or_past}
use Rattle.std.proofs.lemmas.List.FromFn.{get_or-map-range_with_len, length-map-range_with_len}
use Rattle.berge_tree.specs.declared.edges.Edge.{Edge}
use Rattle.berge_tree.specs.declared.edges.Place.{Place}
use Rattle.berge_tree.specs.Equalities.{places_of}
use Rattle.join_graph.specs.Kept.{equalities_within, joins_within}
use Rattle.safebound_lists.specs.declared.runs.Run.{Run}
use Rattle.safebound_bounds.specs.declared.arguments.ColumnList.{ColumnList}
use Rattle.safebound_bounds.specs.declared.arguments.Equality.{Equality}
use Rattle.safebound_bounds.specs.Causes.{AreEqualitiesValid, AreListsValid, AreArgumentsValid}
use Rattle.safebound_bounds.specs.Meaning.{at_most_with_value, rows_in_set, joinable_rows, rows_with_value}

-- ---- the number for one entry

module _ (lists : List ColumnList) (runs : List Run) (entry : ℕ) where
  lowered_at_most : (p : Place) (n : ℕ) → at_most_with_value lists runs entry p n ≤ n
  lowered_at_most p n = by (eqb p.entry entry)
    where
      by : (t : Bool) → (if t then min n (rows_with_value lists runs p) else n) ≤ n
      by true = omega arith
      by false = omega arith

  pub joinable_at_most : (es : List Edge) (n : ℕ) → joinable_rows lists runs entry es n ≤ n
  joinable_at_most [] n = omega arith
  joinable_at_most (e ∷ es) n =
      let left : ℕ = at_most_with_value lists runs entry e.left n in
      omega (arith, joinable_at_most es (at_most_with_value lists runs entry e.right left), lowered_at_most e.right left, lowered_at_most e.left n)

  abbrev pub HasAtLeast : ℕ → Place → Type 0
  HasAtLeast m p = p.entry ≡ entry → m ≤ rows_with_value lists runs p

  lowered_at_least : (p : Place) (m n : ℕ) → m ≤ n → HasAtLeast m p → m ≤ at_most_with_value lists runs entry p n
  lowered_at_least p m n low has = by (eqb p.entry entry) refl
    where
      by : (t : Bool) → eqb p.entry entry ≡ t → m ≤ (if t then min n (rows_with_value lists runs p) else n)
      by true is = omega (arith, low, has (eqb-true p.entry entry is))
      by false is = low

  pub joinable_at_least : (es : List Edge) (m n : ℕ) → m ≤ n → AllByRecursion (HasAtLeast m) (places_of es) → m ≤ joinable_rows lists runs entry es n
  joinable_at_least [] m n low has = low
  joinable_at_least (e ∷ es) m n low has =
      joinable_at_least es m (at_most_with_value lists runs entry e.right (at_most_with_value lists runs entry e.left n))
      (lowered_at_least e.right m (at_most_with_value lists runs entry e.left n) (lowered_at_least e.left m n low has.0) has.1.0) has.1.1

  pub joinable_with_one_more : (subset : ℕ) (e : Edge) (es : List Edge) (n : ℕ)
      → joinable_rows lists runs entry (equalities_within subset es) (joinable_rows lists runs entry (equalities_within subset (e ∷ [])) n)
      ≡ joinable_rows lists runs entry (equalities_within subset (e ∷ es)) n
  joinable_with_one_more subset e es n = by (joins_within subset e)
    where
      by : (t : Bool) → joinable_rows lists runs entry (equalities_within subset es) (joinable_rows lists runs entry (cond t (e ∷ []) []) n)
          ≡ joinable_rows lists runs entry (cond t (e ∷ equalities_within subset es) (equalities_within subset es)) n
      by true = refl
      by false = refl

-- ---- the numbers for all entries

module _ (rows : List ℕ) (lists : List ColumnList) (runs : List Run) (es : List Edge) (subset : ℕ) where
  abbrev joinable_of : ℕ → ℕ
  joinable_of entry = joinable_rows lists runs entry (equalities_within subset es) (get_or rows entry 0)

  pub in_set_counted : length (rows_in_set rows lists runs es subset) ≡ length rows
  in_set_counted = length-map-range_with_len joinable_of 0 (length rows)

  pub in_set_at : (entry : ℕ) → entry < length rows → get_or (rows_in_set rows lists runs es subset) entry 0 ≡ joinable_of entry
  in_set_at entry low = get_or-map-range_with_len joinable_of 0 (length rows) entry entry 0 low (omega arith)

  pub in_set_past : (entry : ℕ) → length rows ≤ entry → get_or (rows_in_set rows lists runs es subset) entry 0 ≡ 0
  in_set_past entry past = get_or_past (rows_in_set rows lists runs es subset) entry 0 (omega (arith, past, in_set_counted))

  pub in_set_at_most : (entry : ℕ) → get_or (rows_in_set rows lists runs es subset) entry 0 ≤ get_or rows entry 0
  in_set_at_most entry = elim (cases_lt entry (length rows)) [
    | inl low ↦ omega (arith, in_set_at entry low, joinable_at_most lists runs entry (equalities_within subset es) (get_or rows entry 0))
    | inr past ↦ omega (arith, in_set_past entry past)
  ]

  pub arguments_stay_valid_in_set : (equalities : List Equality) → AreArgumentsValid rows equalities lists runs → AreArgumentsValid (rows_in_set rows lists runs es subset) equalities lists runs
  arguments_stay_valid_in_set equalities valid = record {
    rows_are_valid = record {
      some = omega (arith, in_set_counted, valid.rows_are_valid.some);
      few = omega (arith, in_set_counted, valid.rows_are_valid.few);
      each = λ i low. omega (arith, in_set_at_most i, valid.rows_are_valid.each i (omega (arith, low, in_set_counted)));
    };
    equalities_are_valid = subst (λ (n : ℕ). AreEqualitiesValid n equalities) (sym in_set_counted) valid.equalities_are_valid;
    lists_are_valid = subst (λ (n : ℕ). AreListsValid n (length runs) lists) (sym in_set_counted) valid.lists_are_valid;
    runs_are_valid = valid.runs_are_valid;
    listed = valid.listed;
  }

  same_list_of : (f : ℕ → ℕ) (xs : List ℕ) (i : ℕ) → ((k : ℕ) → k < length xs → f (i + k) ≡ get_or xs k 0) → map f (range_with_len i (length xs)) ≡ xs
  same_list_of f [] i same = refl
  same_list_of f (x ∷ xs) i same =
      let here : f i ≡ x = subst (λ (k : ℕ). f k ≡ x) (omega arith) (same 0 (omega arith)) in
      rw (here, same_list_of f xs (i + 1) (λ k low. subst (λ (n : ℕ). f n ≡ get_or xs k 0) (omega arith) (same (suc k) (omega arith)))) refl

  pub row_bounds_stay_in_set : ((entry : ℕ) → entry < length rows → joinable_of entry ≡ get_or rows entry 0) → rows_in_set rows lists runs es subset ≡ rows
  row_bounds_stay_in_set same = same_list_of joinable_of rows 0 (λ k low. subst (λ (n : ℕ). joinable_of n ≡ get_or rows k 0) (omega arith) (same k low))
