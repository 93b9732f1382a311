-- How a descending list is split into runs: equal elements are neighbours, so the loop goes from run to run.
use Rattle.std.proofs.Common.{◌≡◌, ℕ, ◌+◌, ◌-◌, ◌<◌, ◌≤◌, true, false, eqb, List, ◌++◌, length, get_or, take, drop, replicate, ap, sym, ◌∙◌, arith, inl, inr, add-zero}
use Rattle.std.specs.List.{AllWithin}
use Rattle.std.specs.List.Sorted.{IsPartitionPoint, IsPartitionedBy}
use Rattle.std.proofs.lemmas.Bool.{cases_lt, eq-eqb, eqb-true, true≢false}
use Rattle.std.proofs.lemmas.Grind.{get_or_default_zero}
use Rattle.std.proofs.lemmas.List.{get_or-drop, length-drop, take_all}
use Rattle.degree_sequences.proofs.FallingLists.{descends_to}
use Rattle.degree_sequences.specs.Descending.{IsDescending}
use Rattle.piece_math.proofs.Building.{take_run}

pub take_rest_is_drop : (list : List ℕ) (start : ℕ) → take (length list - start) (drop start list) ≡ drop start list
take_rest_is_drop list start = take_all (length list - start) (drop start list) (omega (arith, length-drop start list))

at_rest : (list : List ℕ) (start k d : ℕ) → start + k < length list → get_or (drop start list) k d ≡ get_or list (start + k) 0
at_rest list start k d low = get_or-drop start list k d ∙ get_or_default_zero list (start + k) d low

pub equal_come_first : (list : List ℕ) (start : ℕ) → IsDescending list → start < length list
    → IsPartitionedBy (λ x. eqb x (get_or list start 0)) (drop start list)
equal_come_first list start fall some i j d before low is =
    let within : start + j < length list = omega (arith, low, length-drop start list) in
    let equal : get_or list (start + j) 0 ≡ get_or list start 0 = sym (at_rest list start j d within) ∙ eqb-true _ _ is in
    let same : get_or list (start + i) 0 ≡ get_or list start 0 =
    omega (arith, equal, descends_to list fall start (start + i) (omega arith), descends_to list fall (start + i) (start + j) (omega arith)) in
    eq-eqb _ _ (at_rest list start i d (omega arith) ∙ same)

-- The rest is the list from `start` on. Exactly its first `count` elements are equal to the element at `start`, so the run has `count` elements.
module _ (list : List ℕ) (start count : ℕ) (start_exists : start < length list) (count_within_rest : count ≤ length (drop start list))
    (split : IsPartitionPoint (λ x. eqb x (get_or list start 0) ≡ true) (λ x. eqb x (get_or list start 0) ≡ false) (drop start list) count) where
  pub run_within : start + count ≤ length list
  run_within = omega (arith, count_within_rest, length-drop start list)

  pub run_equal : AllWithin (λ x. x ≡ get_or list start 0) list start (start + count)
  run_equal k d low high =
      let at : start + (k - start) ≡ k = omega arith in
      let it : get_or (drop start list) (k - start) d ≡ get_or list k d =
      get_or-drop start list (k - start) d ∙ ap (λ i. get_or list i d) at in
      sym it ∙ eqb-true _ _ (split.0 (k - start) d (omega arith) (omega arith))

  pub run_not_empty : 0 < count
  run_not_empty = elim (cases_lt 0 count) [
    | inl more ↦ more
    | inr none ↦ (
        let here : get_or (drop start list) 0 0 ≡ get_or list start 0 =
        at_rest list start 0 0 (omega arith) ∙ ap (λ i. get_or list i 0) (add-zero start) in
        absurd (true≢false (sym (eq-eqb _ _ here) ∙ split.1 0 0 (omega arith) (omega (arith, length-drop start list)))))
  ]

pub one_run_more : (list pieces longer : List ℕ) (start count value : ℕ) → start + count ≤ length list
    → AllWithin (λ x. x ≡ get_or list start 0) list start (start + count) → 0 < get_or list start 0 → pieces ≡ take start list → value ≡ get_or list start 0
    → longer ≡ pieces ++ replicate count value → longer ≡ take (start + count) list
one_run_more list pieces longer start count value within equal positive so_far is added =
    added
    ∙ ap (λ (s : List ℕ). s ++ replicate count value) so_far
    ∙ ap (λ x. take start list ++ replicate count x) is
    ∙ sym (take_run start list count (get_or list start 0) (λ k low. equal (start + k) 0 (omega arith) (omega arith)) positive)
