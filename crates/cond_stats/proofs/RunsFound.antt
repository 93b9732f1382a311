-- The code finds the runs of equal neighbours in ascending numbers, run by run.
use Rattle.std.proofs.Common.{◌≡◌, ℕ, suc, ◌+◌, ◌-◌, ◌<◌, ◌≤◌, Bool, true, false, not, ◌||◌, eqb, List, [], ◌∷◌, ◌++◌, map, length, get_or, take, replicate, refl, ap, sym, ◌∙◌, arith, length-take, inl, inr}
use Rattle.std.specs.List.{All}
use Rattle.std.specs.List.Sorted.{IsNonDecreasing}
use Rattle.std.proofs.lemmas.Bool.{cases_lt, eqb-true, eqb-false, eq-eqb, or_cases, false≢true}
use Rattle.std.proofs.lemmas.List.{take_all, get_or-take, get_or_append_left, get_or_push, length_push, map_push}
use Rattle.std.proofs.lemmas.List.Elements.{All-nil, All-push}
use Rattle.degree_sequences.specs.Degrees.{degree, different}
use Rattle.degree_lists.proofs.OneMoreKey.{different-run}
use Rattle.degree_lists.proofs.RunLengths.{take-run, degree-above}
use Rattle.cond_stats.specs.declared.groups.ValueRun.{ValueRun}
use Rattle.cond_stats.specs.Runs.{IsRun, AreRunsOfNumbers, ends_run}

abbrev pub number_of_run : List ℕ → ValueRun → ℕ
number_of_run numbers run = get_or numbers run.start 0

abbrev pub StartsAscend : List ValueRun → Type 0
StartsAscend runs = (i j : ℕ) (none : ValueRun) → i < j → j < length runs → (get_or runs i none).start < (get_or runs j none).start

starts_ascend-push : (runs : List ValueRun) (run : ValueRun) → StartsAscend runs → All (λ before. before.start < run.start) runs → StartsAscend (runs ++ run ∷ [])
starts_ascend-push runs run up earlier i j none low high =
    let first : (get_or (runs ++ run ∷ []) i none).start ≡ (get_or runs i none).start =
    ap (λ (r : ValueRun). r.start) (get_or_append_left runs (run ∷ []) none i (omega (arith, high, length_push runs run))) in
    elim (cases_lt j (length runs)) [
      | inl h ↦ omega (arith, first, ap (λ (r : ValueRun). r.start) (get_or_append_left runs (run ∷ []) none j h), up i j none low h)
      | inr h ↦ omega (
        arith,
        first,
        ap (λ (r : ValueRun). r.start) (get_or_push runs run none j (omega (arith, h, high, length_push runs run))),
        earlier i none (omega (arith, high, length_push runs run)),
      )
    ]

-- the runs that end before index i were found. A run that isn't finished yet begins at `start`
pub record RunsSoFar (numbers places : List ℕ) (runs : List ValueRun) (start i : ℕ) : Type 0 where
  pub within : start ≤ i
  pub more : start < i → i < length numbers
  pub alike : (k : ℕ) → start ≤ k → k < i → get_or numbers k 0 ≡ get_or numbers i 0
  pub below : (k : ℕ) → k < start → start < length numbers → get_or numbers k 0 < get_or numbers start 0
  pub each : All (IsRun numbers places) runs
  pub all : map (number_of_run numbers) runs ≡ different (take start numbers)
  pub ascend : StartsAscend runs
  pub earlier : All (λ run. run.start < start) runs

pub no_runs_yet : (numbers places : List ℕ) → RunsSoFar numbers places [] 0 0
no_runs_yet numbers places = record {
  within = omega arith;
  more = λ some. absurd (omega arith);
  alike = λ k low high. absurd (omega arith);
  below = λ k low high. absurd (omega arith);
  each = All-nil (IsRun numbers places);
  all = refl;
  ascend = λ i j none low high. absurd (omega arith);
  earlier = All-nil (λ (run : ValueRun). run.start < 0);
}

next_is_same : (numbers : List ℕ) (i : ℕ) → i < length numbers → ends_run numbers i (get_or numbers i 0) ≡ false → (i + 1 < length numbers) × (get_or numbers (i + 1) 0 ≡ get_or numbers i 0)
next_is_same numbers i within same_run =
    let last : eqb (i + 1) (length numbers) ≡ false = left (eqb (i + 1) (length numbers)) (not (eqb (get_or numbers (i + 1) 0) (get_or numbers i 0))) same_run in
    let same : eqb (get_or numbers (i + 1) 0) (get_or numbers i 0) ≡ true = right (eqb (i + 1) (length numbers)) (eqb (get_or numbers (i + 1) 0) (get_or numbers i 0)) same_run in
    (omega (arith, eqb-false (i + 1) (length numbers) last), eqb-true (get_or numbers (i + 1) 0) (get_or numbers i 0) same)
  where
    left : (a b : Bool) → (a || b) ≡ false → a ≡ false
    left true b h = absurd (false≢true (sym h))
    left false b h = refl

    right : (a b : Bool) → (a || not b) ≡ false → b ≡ true
    right true b h = absurd (false≢true (sym h))
    right false true h = refl
    right false false h = absurd (false≢true (sym h))

number_changes : (numbers : List ℕ) (i : ℕ) → ends_run numbers i (get_or numbers i 0) ≡ true → i + 1 < length numbers → get_or numbers (i + 1) 0 ≡ get_or numbers i 0 → ⊥
number_changes numbers i end_here room same = elim (or_cases (eqb (i + 1) (length numbers)) (not (eqb (get_or numbers (i + 1) 0) (get_or numbers i 0))) end_here) [
  | inl last ↦ omega (arith, eqb-true (i + 1) (length numbers) last)
  | inr other ↦ (let equal : eqb (get_or numbers (i + 1) 0) (get_or numbers i 0) ≡ true = eq-eqb (get_or numbers (i + 1) 0) (get_or numbers i 0) same in
      false≢true (rw equal at other))
]

pub run_goes_on : (numbers places : List ℕ) (runs : List ValueRun) (start i : ℕ) → RunsSoFar numbers places runs start i → i < length numbers
    → ends_run numbers i (get_or numbers i 0) ≡ false → RunsSoFar numbers places runs start (i + 1)
run_goes_on numbers places runs start i so within same_run =
    let next = next_is_same numbers i within same_run in
    record {
      within = omega (arith, so.within);
      more = λ some. next.0;
      alike = λ k low high. elim (cases_lt k i) [
        | inl h ↦ so.alike k low h ∙ sym next.1
        | inr h ↦ (let here : k ≡ i = omega arith in ap (λ j. get_or numbers j 0) here ∙ sym next.1)
      ];
      below = so.below;
      each = so.each;
      all = so.all;
      ascend = so.ascend;
      earlier = so.earlier;
    }

pub run_ends : (numbers places : List ℕ) (runs : List ValueRun) (start i : ℕ) (run : ValueRun) → IsNonDecreasing numbers → RunsSoFar numbers places runs start i → i < length numbers
    → ends_run numbers i (get_or numbers i 0) ≡ true → run.first ≡ get_or places start 0 → run.start ≡ start → run.count ≡ (i + 1) - start
    → RunsSoFar numbers places (runs ++ run ∷ []) (i + 1) (i + 1)
run_ends numbers places runs start i run up so within end_here first_is start_is count_is =
    let x : ℕ = get_or numbers i 0 in
    let n : ℕ = i - start in
    let alike : (k : ℕ) → start ≤ k → k < i + 1 → get_or numbers k 0 ≡ x = λ k low high. elim (cases_lt k i) [
      | inl h ↦ so.alike k low h
      | inr h ↦ (let here : k ≡ i = omega arith in ap (λ j. get_or numbers j 0) here)
    ] in
    let here : get_or numbers start 0 ≡ x = alike start (omega arith) (omega (arith, so.within)) in
    let at_run : get_or numbers run.start 0 ≡ x = ap (λ j. get_or numbers j 0) start_is ∙ here in
    let below : (k : ℕ) → k < start → get_or numbers k 0 < x = λ k low. omega (arith, so.below k low (omega (arith, so.within)), here) in
    let above : (k : ℕ) → i + 1 ≤ k → k < length numbers → x < get_or numbers k 0 = λ k low high.
    (let step : x ≤ get_or numbers (i + 1) 0 = up i (i + 1) 0 (omega arith) (omega arith) in
    let far : get_or numbers (i + 1) 0 ≤ get_or numbers k 0 = up (i + 1) k 0 low high in
    strictly x (get_or numbers (i + 1) 0) (get_or numbers k 0) step far (λ same. number_changes numbers i end_here (omega arith) same)) in
    let whole : take (start + suc n) numbers ≡ take start numbers ++ replicate (suc n) x =
    take-run numbers x start (suc n) (omega (arith, so.within)) (λ k low high. alike k low (omega (arith, so.within))) in
    let fresh : degree (take start numbers) x ≡ 0 = degree-above (take start numbers) x
    (λ k low. let there : k < start = omega (arith, length-take start numbers) in omega (arith, get_or-take start numbers k 0 there, below k there)) in
    let one_more : different (take (i + 1) numbers) ≡ different (take start numbers) ++ x ∷ [] =
    ap (λ m. different (take m numbers)) (omega (arith, so.within)) ∙ ap different whole ∙ different-run (take start numbers) n x fresh in
    record {
      within = omega arith;
      more = λ some. absurd (omega arith);
      alike = λ k low high. absurd (omega arith);
      below = λ k low high. elim (cases_lt k start) [
        | inl h ↦ omega (arith, below k h, above (i + 1) (omega arith) high)
        | inr h ↦ omega (arith, alike k h low, above (i + 1) (omega arith) high)
      ];
      each = All-push (IsRun numbers places) runs run so.each (record {
        some = omega (arith, count_is, so.within);
        ends = omega (arith, count_is, start_is, so.within);
        first = first_is ∙ ap (λ j. get_or places j 0) (sym start_is);
        alike = λ k low high. alike k (omega (arith, start_is)) (omega (arith, count_is, start_is, so.within)) ∙ sym at_run;
        lower = λ k low. omega (arith, at_run, below k (omega (arith, start_is)));
        higher = λ k low high. omega (arith, at_run, above k (omega (arith, count_is, start_is, so.within)) high);
      });
      all = map_push (number_of_run numbers) runs run ∙ ap (λ y. map (number_of_run numbers) runs ++ y ∷ []) at_run ∙ ap (λ s. s ++ x ∷ []) so.all ∙ sym one_more;
      ascend = starts_ascend-push runs run so.ascend (λ k d h. omega (arith, so.earlier k d h, start_is));
      earlier = All-push (λ (before : ValueRun). before.start < i + 1) runs run (λ k d h. omega (arith, so.earlier k d h, so.within)) (omega (arith, start_is, so.within));
    }
  where
    strictly : (x y z : ℕ) → x ≤ y → y ≤ z → (y ≡ x → ⊥) → x < z
    strictly x y z h k differs = elim (cases_lt x z) [
      | inl l ↦ l
      | inr l ↦ absurd (differs (omega arith))
    ]

pub all_runs : (numbers places : List ℕ) (runs : List ValueRun) (start i : ℕ) → RunsSoFar numbers places runs start i → length numbers ≤ i → AreRunsOfNumbers numbers places runs
all_runs numbers places runs start i so end =
    let none : length numbers ≤ start = elim (cases_lt start i) [ inl h ↦ absurd (omega (arith, so.more h)) | inr h ↦ omega arith ] in
    record { each = so.each; all = so.all ∙ ap different (take_all start numbers none); ascend = so.ascend }
