-- Among ascending numbers a leaf begins where the run of its cut begins. So the starts of the leaves are found from the runs.
use Rattle.std.proofs.Common.{◌≡◌, ℕ, ◌+◌, ◌-◌, ◌<◌, ◌≤◌, true, false, leb, List, [], ◌∷◌, ◌++◌, length, get_or, map, refl, ap, sym, ◌∙◌, subst, arith, inl, inr}
use Rattle.std.specs.List.Sorted.{IsNonDecreasingBy, IsPartitionPoint}
use Rattle.std.proofs.lemmas.Bool.{cases_lt, lt-ltb, le-ltb, leb-true, leb-false}
use Rattle.std.proofs.lemmas.List.{get_or-map, get_or_append_left, get_or_push, length-map}
use Rattle.degree_sequences.specs.Degrees.{degree, different}
use Rattle.cond_stats.specs.declared.groups.ValueRun.{ValueRun}
use Rattle.cond_stats.specs.Runs.{IsRun, AreRunsOfNumbers, IsLeafStart}
use Rattle.cond_stats.proofs.InOrderFacts.{has_degree, place_of_degree, degree-different}
use Rattle.cond_stats.proofs.LeavesFound.{cut_place, cut_place-within}
use Rattle.cond_stats.proofs.RunsFound.{number_of_run}

abbrev pub no_run : ValueRun
no_run = record { first = 0; start = 0; count = 0 }

module _ {numbers places : List ℕ} {runs : List ValueRun} (are_runs : AreRunsOfNumbers numbers places runs) where
  pub starts_rise : IsNonDecreasingBy (λ (run : ValueRun). run.start) runs
  starts_rise i j d low within = elim (cases_lt i j) [
    | inl h ↦ omega (arith, are_runs.ascend i j d h within)
    | inr h ↦ (let same : i ≡ j = omega arith in omega (arith, ap (λ m. (get_or runs m d).start) same))
  ]

  run_of_row : (k : ℕ) → k < length numbers → (r : ℕ) × (r < length runs) × ((get_or runs r no_run).start ≤ k) × (k < (get_or runs r no_run).start + (get_or runs r no_run).count)
  run_of_row k within =
      let x : ℕ = get_or numbers k 0 in
      let once : degree (different numbers) x ≡ 1 = rw (lt-ltb 0 (degree numbers x) (has_degree numbers k within)) at (degree-different numbers x) in
      let at = place_of_degree (map (number_of_run numbers) runs) x (omega (arith, ap (λ s. degree s x) are_runs.all, once)) in
      let room : at.0 < length runs = omega (arith, at.1, length-map runs (number_of_run numbers)) in
      let run : ValueRun = get_or runs at.0 no_run in
      let is : IsRun numbers places run = are_runs.each at.0 no_run room in
      let same : get_or numbers run.start 0 ≡ x = sym (get_or-map (number_of_run numbers) runs at.0 no_run 0 room) ∙ at.2 in (
        at.0,
        room,
        elim (cases_lt k run.start) [ inl h ↦ absurd (omega (arith, same, is.lower k h)) | inr h ↦ h ],
        elim (cases_lt k (run.start + run.count)) [ inl h ↦ h | inr h ↦ absurd (omega (arith, same, is.higher k h within)) ],
      )

  last_run : (k below r : ℕ) → (get_or runs r no_run).start ≤ k → k < (get_or runs r no_run).start + (get_or runs r no_run).count
      → IsPartitionPoint (λ (run : ValueRun). leb run.start k ≡ true) (λ (run : ValueRun). leb run.start k ≡ false) runs below
      → r < length runs → below ≤ length runs → r + 1 ≡ below
  last_run k below r low high split within bound = elim (cases_lt r below) [
    | inr after ↦ absurd (omega (arith, low, leb-false (get_or runs r no_run).start k (split.1 r no_run after within)))
    | inl before ↦ elim (cases_lt (r + 1) below) [
      | inr h ↦ omega arith
      | inl h ↦ (let next : ValueRun = get_or runs (r + 1) no_run in
          let run : ValueRun = get_or runs r no_run in
          let further : run.start < next.start = are_runs.ascend r (r + 1) no_run (omega arith) (omega arith) in
          let starts : next.start ≤ k = leb-true next.start k (split.0 (r + 1) no_run (omega arith) h) in
          absurd (omega (
            arith,
            (are_runs.each r no_run within).alike next.start (omega arith) (omega arith),
            (are_runs.each (r + 1) no_run (omega arith)).lower run.start further,
          )))
    ]
  ]

  start_of_run : (leaf : ℕ) (run : ValueRun) → leaf < 32 → IsRun numbers places run → run.start ≤ cut_place (length numbers) leaf → cut_place (length numbers) leaf < run.start + run.count
      → IsLeafStart numbers leaf run.start
  start_of_run leaf run not_last is low high = record {
    within = omega (arith, is.ends);
    first = λ zero. omega (arith, low, zero, ap (λ m. cut_place (length numbers) m) zero);
    last = λ end. absurd (omega arith);
    between = λ k some less within. elim (cases_lt k run.start) [
      | inl h ↦ lt-ltb (get_or numbers k 0) (get_or numbers (cut_place (length numbers) leaf) 0) (omega (arith, at_cut, is.lower k h)) ∙ sym (lt-ltb k run.start h)
      | inr h ↦ le-ltb (get_or numbers k 0) (get_or numbers (cut_place (length numbers) leaf) 0) (omega (arith, at_cut, no_less k h within)) ∙ sym (le-ltb k run.start h)
    ];
  }
    where
      at_cut : get_or numbers (cut_place (length numbers) leaf) 0 ≡ get_or numbers run.start 0
      at_cut = is.alike (cut_place (length numbers) leaf) low high

      no_less : (k : ℕ) → run.start ≤ k → k < length numbers → get_or numbers run.start 0 ≤ get_or numbers k 0
      no_less k after within = elim (cases_lt k (run.start + run.count)) [
        | inl h ↦ omega (arith, is.alike k after h)
        | inr h ↦ omega (arith, is.higher k h within)
      ]

  -- `below` is how many runs begin at a leaf's cut or before it. If it isn't 0, the leaf begins where the last of these runs begins
  module _ (leaf below : ℕ) (not_last : leaf < 32) (bound : below ≤ length runs)
      (split : IsPartitionPoint (λ (run : ValueRun). leb run.start (cut_place (length numbers) leaf) ≡ true) (λ (run : ValueRun). leb run.start (cut_place (length numbers) leaf) ≡ false) runs below) where
    cut_run : 0 < length numbers → (r : ℕ) × (r + 1 ≡ below) × IsLeafStart numbers leaf (get_or runs r no_run).start
    cut_run some =
        let row = run_of_row (cut_place (length numbers) leaf) (cut_place-within (length numbers) leaf some not_last) in (
          row.0,
          last_run (cut_place (length numbers) leaf) below row.0 row.2 row.3 split row.1 bound,
          start_of_run leaf (get_or runs row.0 no_run) not_last (are_runs.each row.0 no_run row.1) row.2 row.3,
        )

    pub start_found : 0 < below → IsLeafStart numbers leaf (get_or runs (below - 1) no_run).start
    start_found some =
        let first : IsRun numbers places (get_or runs 0 no_run) = are_runs.each 0 no_run (omega arith) in
        let run = cut_run (omega (arith, first.some, first.ends)) in
        let at : run.0 ≡ below - 1 = omega (arith, run.1) in
        subst (λ r. IsLeafStart numbers leaf (get_or runs r no_run).start) at run.2

    pub no_start : below ≡ 0 → IsLeafStart numbers leaf 0
    no_start none = elim (cases_lt 0 (length numbers)) [
      | inl some ↦ absurd (omega (arith, (cut_run some).1))
      | inr empty ↦ record {
        within = omega arith;
        first = λ zero. refl;
        last = λ end. absurd (omega arith);
        between = λ k low high within. absurd (omega arith);
      }
    ]

pub starts-push : (numbers starts : List ℕ) (leaf start : ℕ) → length starts ≡ leaf → ((k : ℕ) → k < leaf → IsLeafStart numbers k (get_or starts k 0)) → IsLeafStart numbers leaf start
    → (k : ℕ) → k < leaf + 1 → IsLeafStart numbers k (get_or (starts ++ start ∷ []) k 0)
starts-push numbers starts leaf start lengths each is k low = elim (cases_lt k leaf) [
  | inl h ↦ subst (IsLeafStart numbers k) (sym (get_or_append_left starts (start ∷ []) 0 k (omega arith))) (each k h)
  | inr h ↦ (let here : leaf ≡ k = omega arith in
      subst (λ m. IsLeafStart numbers m (get_or (starts ++ start ∷ []) m 0)) here (subst (IsLeafStart numbers leaf) (sym (get_or_push starts start 0 leaf lengths)) is))
]
