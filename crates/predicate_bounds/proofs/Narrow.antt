-- The ranges of an AND become one range for each column. The lemmas are for two loops: over the ranges of one column, and over all ranges.
use Rattle.std.proofs.Common.{◌≡◌, ℕ, suc, ◌+◌, ◌-◌, ◌<◌, ◌≤◌, Bool, true, false, not, ◌||◌, eqb, cond, List, [], ◌∷◌, ◌++◌, map, length, take, drop, get_or, Option, None, Some, refl, ap, sym, ◌∙◌, inl, inr, arith}
use Rattle.std.specs.List.{cons_option, filter, filter_map, list_any}
use Rattle.std.proofs.Math.ListN.{get_or-map}
use Rattle.std.proofs.Math.Seq.{drop-cons}
use Rattle.std.proofs.lemmas.Bool.{cases_Bool, eqb-true, eqb-false, ne_eqb, eq-eqb}
use Rattle.std.proofs.lemmas.List.{take_more, take-map, map-append, length-map}
use Rattle.std.proofs.lemmas.List.Elements.{filter-append}
use Rattle.csv_tables.specs.Values.{Value}
use Rattle.degree_sequences.specs.Degrees.{different}
use Rattle.filtered_lists.specs.Ranges as ranges
use Rattle.filtered_lists.specs.Ranges.{greatest_value, least_value, intersection_of, ranges_of}
use Rattle.predicate_bounds.specs.declared.steps.Range.{Range}
use Rattle.predicate_bounds.specs.declared.steps.Step.{Step}
use Rattle.predicate_bounds.specs.Narrowing.{lower_high_end, greater_low_end, narrowed}
use Rattle.predicate_bounds.specs.Steps.{range_of, step_answers}

-- ---- the ends of the intersection of a column's ranges

greatest_of_one_more : (low : Option Value) (lows : List Value) → greatest_value (cons_option low lows) ≡ greater_low_end low (greatest_value lows)
greatest_of_one_more None lows = refl
greatest_of_one_more (Some v) lows = refl

least_of_one_more : (high : Option Value) (highs : List Value) → least_value (cons_option high highs) ≡ lower_high_end high (least_value highs)
least_of_one_more None highs = refl
least_of_one_more (Some v) highs = refl

intersection_of_one_more : (r : ranges.Range) (rs : List ranges.Range) (column : ℕ) → eqb r.column column ≡ true → intersection_of (r ∷ rs) column ≡ narrowed r (intersection_of rs column)
intersection_of_one_more r rs column t =
    rw t (ap (λ (low : Option Value). record { column = column; low = low; high = least_value (cons_option r.high (filter_map (λ range. range.high) (ranges_of column rs))) }) (greatest_of_one_more r.low (filter_map (λ range. range.low) (ranges_of column rs)))
    ∙ ap (λ (high : Option Value). record { column = column; low = greater_low_end r.low (greatest_value (filter_map (λ range. range.low) (ranges_of column rs))); high = high }) (least_of_one_more r.high (filter_map (λ range. range.high) (ranges_of column rs))))

intersection_without_other : (r : ranges.Range) (rs : List ranges.Range) (column : ℕ) → eqb r.column column ≡ false → intersection_of (r ∷ rs) column ≡ intersection_of rs column
intersection_without_other r rs column n = rw n refl

drop_is_cons : (rs : List Range) (j : ℕ) (r : Range) → j < length rs → r ≡ get_or rs j r → drop j (map range_of rs) ≡ range_of r ∷ drop (suc j) (map range_of rs)
drop_is_cons rs j r low is =
    let within : j < length (map range_of rs) = omega (arith, length-map rs range_of) in
    drop-cons (map range_of rs) j (range_of r) within ∙ ap (λ (x : ranges.Range). x ∷ drop (suc j) (map range_of rs)) (get_or-map range_of rs j r ∙ ap range_of (sym is))

-- The loop goes from the last range to the first. A range of the column narrows the intersection; a range of another column doesn't change it
pub narrowed_more : (rs : List Range) (i : ℕ) (r : Range) (column : ℕ) (one more : ranges.Range) → 0 < i → i ≤ length rs → r ≡ get_or rs (i - 1) r → r.column ≡ column
    → one ≡ intersection_of (drop i (map range_of rs)) column → more ≡ narrowed (range_of r) one → more ≡ intersection_of (drop (i - 1) (map range_of rs)) column
narrowed_more rs i r column one more some low is same so_far narrow =
    let here : i ≡ suc (i - 1) = omega arith in
    narrow ∙ ap (narrowed (range_of r)) (so_far ∙ ap (λ (n : ℕ). intersection_of (drop n (map range_of rs)) column) here)
    ∙ sym (intersection_of_one_more (range_of r) (drop (suc (i - 1)) (map range_of rs)) column (eq-eqb r.column column same))
    ∙ ap (λ (s : List ranges.Range). intersection_of s column) (sym (drop_is_cons rs (i - 1) r (omega arith) is))

pub other_more : (rs : List Range) (i : ℕ) (r : Range) (column : ℕ) (one : ranges.Range) → 0 < i → i ≤ length rs → r ≡ get_or rs (i - 1) r → ¬ (r.column ≡ column)
    → one ≡ intersection_of (drop i (map range_of rs)) column → one ≡ intersection_of (drop (i - 1) (map range_of rs)) column
other_more rs i r column one some low is apart so_far =
    let here : i ≡ suc (i - 1) = omega arith in
    so_far ∙ ap (λ (n : ℕ). intersection_of (drop n (map range_of rs)) column) here
    ∙ sym (intersection_without_other (range_of r) (drop (suc (i - 1)) (map range_of rs)) column (ne_eqb r.column column apart))
    ∙ ap (λ (s : List ranges.Range). intersection_of s column) (sym (drop_is_cons rs (i - 1) r (omega arith) is))

-- ---- the different columns of a list, when one more column is added to it

eqb_symmetric : (a b : ℕ) → eqb a b ≡ eqb b a
eqb_symmetric a b = elim (cases_Bool (eqb a b)) [
  | inl t ↦ t ∙ sym (eq-eqb b a (sym (eqb-true a b t)))
  | inr n ↦ n ∙ sym (ne_eqb b a (λ e. eqb-false a b n (sym e)))
]

pub different_new : (xs : List ℕ) (x : ℕ) → list_any (λ c. eqb c x) xs ≡ false → different (xs ++ x ∷ []) ≡ different xs ++ x ∷ []
different_new [] x h = refl
different_new (y ∷ xs) x h = elim (cases_Bool (eqb y x)) [
  | inl t ↦ (let no : true ≡ false = rw t at h in absurd (cc))
  | inr n ↦ (let rest : list_any (λ c. eqb c x) xs ≡ false = rw n at h in
      ap (λ (s : List ℕ). y ∷ s) (ap (filter (λ other. not (eqb other y))) (different_new xs x rest) ∙ filter-append (λ other. not (eqb other y)) (different xs) (x ∷ [])
      ∙ ap (λ (b : Bool). filter (λ other. not (eqb other y)) (different xs) ++ cond (not b) (x ∷ []) []) (eqb_symmetric x y ∙ n)))
]

append_none : (s : List ℕ) → s ++ [] ≡ s
append_none [] = refl
append_none (x ∷ s) = ap (λ (t : List ℕ). x ∷ t) (append_none s)

pub different_old : (xs : List ℕ) (x : ℕ) → list_any (λ c. eqb c x) xs ≡ true → different (xs ++ x ∷ []) ≡ different xs
different_old [] x h = cc
different_old (y ∷ xs) x h = elim (cases_Bool (list_any (λ c. eqb c x) xs)) [
  | inl t ↦ ap (λ (s : List ℕ). y ∷ filter (λ other. not (eqb other y)) s) (different_old xs x t)
  | inr n ↦ elim (cases_Bool (eqb y x)) [
    | inl t ↦ ap (λ (s : List ℕ). y ∷ s) (ap (filter (λ other. not (eqb other y))) (different_new xs x n) ∙ filter-append (λ other. not (eqb other y)) (different xs) (x ∷ [])
        ∙ ap (λ (b : Bool). filter (λ other. not (eqb other y)) (different xs) ++ cond (not b) (x ∷ []) []) (eqb_symmetric x y ∙ t)
        ∙ append_none (filter (λ other. not (eqb other y)) (different xs)))
    | inr m ↦ (let no : false ≡ true = rw (m, n) at h in absurd (cc))
  ]
]

-- ---- the ranges of an AND, one for each column

abbrev pub columns : List Range → List ℕ
columns rs = map (λ range. range.column) (map range_of rs)

abbrev pub first_steps : List Range → ℕ → List (List Step)
first_steps rs i = map step_answers.range (map (intersection_of (map range_of rs)) (different (take i (columns rs))))

next_column : (rs : List Range) (i : ℕ) (r : Range) → i < length rs → r ≡ get_or rs i r → take (i + 1) (columns rs) ≡ take i (columns rs) ++ r.column ∷ []
next_column rs i r low is =
    let within : i < length (columns rs) = omega (arith, length-map (map range_of rs) (λ (range : ranges.Range). range.column), length-map rs range_of) in
    take_more (columns rs) i r.column within ∙ ap (λ (c : ℕ). take i (columns rs) ++ c ∷ [])
    (get_or-map (λ (range : ranges.Range). range.column) (map range_of rs) i (range_of r) ∙ ap (λ (range : ranges.Range). range.column) (get_or-map range_of rs i r ∙ ap range_of (sym is)))

any_of_columns : (rs : List Range) (column : ℕ) → list_any (λ c. eqb c column) (columns rs) ≡ list_any (λ range. eqb range.column column) rs
any_of_columns [] column = refl
any_of_columns (r ∷ rs) column = ap (λ (b : Bool). eqb r.column column || b) (any_of_columns rs column)

is_there : (rs : List Range) (i column : ℕ) → list_any (λ c. eqb c column) (take i (columns rs)) ≡ list_any (λ range. eqb range.column column) (take i rs)
is_there rs i column =
    ap (list_any (λ c. eqb c column)) (take-map (λ (range : ranges.Range). range.column) i (map range_of rs) ∙ ap (map (λ (range : ranges.Range). range.column)) (take-map range_of i rs))
    ∙ any_of_columns (take i rs) column

pub old_column : (rs : List Range) (i : ℕ) (r : Range) → i < length rs → r ≡ get_or rs i r → list_any (λ range. eqb range.column r.column) (take i rs) ≡ true
    → first_steps rs (i + 1) ≡ first_steps rs i
old_column rs i r low is there =
    ap (λ (cs : List ℕ). map step_answers.range (map (intersection_of (map range_of rs)) cs))
    (ap different (next_column rs i r low is) ∙ different_old (take i (columns rs)) r.column (is_there rs i r.column ∙ there))

pub new_column : (rs : List Range) (i : ℕ) (r : Range) → i < length rs → r ≡ get_or rs i r → list_any (λ range. eqb range.column r.column) (take i rs) ≡ false
    → first_steps rs (i + 1) ≡ first_steps rs i ++ step_answers.range (intersection_of (map range_of rs) r.column) ∷ []
new_column rs i r low is there =
    let f : ℕ → List Step = λ column. step_answers.range (intersection_of (map range_of rs) column) in
    ap (λ (cs : List ℕ). map step_answers.range (map (intersection_of (map range_of rs)) cs))
    (ap different (next_column rs i r low is) ∙ different_new (take i (columns rs)) r.column (is_there rs i r.column ∙ there))
    ∙ ap (map step_answers.range) (map-append (intersection_of (map range_of rs)) (different (take i (columns rs))) (r.column ∷ []))
    ∙ map-append step_answers.range (map (intersection_of (map range_of rs)) (different (take i (columns rs)))) (intersection_of (map range_of rs) r.column ∷ [])
