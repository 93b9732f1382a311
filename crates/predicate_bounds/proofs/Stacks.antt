-- The code's stack of lists has its top at the end. In the definitions the top is the first list.
use Rattle.std.proofs.Common.{◌≡◌, ℕ, suc, ◌+◌, ◌*◌, ◌^◌, ◌<◌, ◌≤◌, true, List, [], ◌∷◌, ◌++◌, map, reverse, length, drop, get_or, sum, refl, ap, sym, ◌∙◌, arith}
use Rattle.std.specs.List.{list_all}
use Rattle.std.proofs.lemmas.List.{reverse-append}
use Rattle.std.proofs.lemmas.List.Sums.{sum_by-append, sum_by-cons, AllPass-from_list_all}
use Rattle.std.proofs.Math.Numerals.{add-one}
use Rattle.std.proofs.Math.Seq.{drop-cons}
use Rattle.degree_sequences.specs.ByRank.{rank_sum}
use Rattle.degree_sequences.specs.RunningSums.{lesser}
use Rattle.degree_sequences.specs.Saturation.{saturated}
use Rattle.filtered_lists.proofs.Lists.{sum-lesser}
use Rattle.degree_sequences.proofs.ByRank.{sum-rank_sum}
use Rattle.predicate_bounds.specs.ListRuns.{total_of, is_small, after_list_step, after_list_steps}
use Rattle.predicate_bounds.specs.Runs.{combine_top}
use Rattle.predicate_bounds.specs.declared.running.ListStep.{ListStep}

-- ---- pushing a list, and combining the two lists on top

pub reverse_of_push : (old new : List (List ℕ)) (x : List ℕ) → new ≡ old ++ x ∷ [] → reverse new ≡ x ∷ reverse old
reverse_of_push old new x h = ap reverse h ∙ reverse-append old (x ∷ [])

pub reverse_of_combined : (f : List ℕ → List ℕ → List ℕ) (old mid rest new : List (List ℕ)) (x y : List ℕ) → old ≡ mid ++ y ∷ [] → mid ≡ rest ++ x ∷ [] → new ≡ rest ++ f x y ∷ []
    → reverse new ≡ combine_top f (reverse old)
reverse_of_combined f old mid rest new x y h k l =
    reverse_of_push rest new (f x y) l ∙ sym (ap (combine_top f) (reverse_of_push mid old y h ∙ ap (λ (s : List (List ℕ)). y ∷ s) (reverse_of_push rest mid x k)))

-- ---- the sum of all lists on the stack, after a push, an And and an Or

pub total_push : (old new : List (List ℕ)) (x : List ℕ) → new ≡ old ++ x ∷ [] → total_of new ≡ total_of old + sum x
total_push old new x h =
    let parts : total_of (old ++ x ∷ []) ≡ total_of old + total_of (x ∷ []) = sum_by-append sum old (x ∷ []) in
    omega (arith, ap total_of h, parts, sum_by-cons sum x [])

pub and_total : (old mid rest new : List (List ℕ)) (x y z : List ℕ) → old ≡ mid ++ y ∷ [] → mid ≡ rest ++ x ∷ [] → z ≡ lesser x y → new ≡ rest ++ z ∷ []
    → total_of new ≤ total_of old
and_total old mid rest new x y z h k is l =
    omega (arith, total_push mid old y h, total_push rest mid x k, total_push rest new z l, ap sum is, sum-lesser x y)

pub or_total : (old mid rest new : List (List ℕ)) (x y z : List ℕ) → old ≡ mid ++ y ∷ [] → mid ≡ rest ++ x ∷ [] → z ≡ rank_sum x y → new ≡ rest ++ z ∷ []
    → total_of new ≤ total_of old
or_total old mid rest new x y z h k is l =
    omega (arith, total_push mid old y h, total_push rest mid x k, total_push rest new z l, ap sum is, sum-rank_sum x y)

saturation_keeps_small : (s : List ℕ) → sum s < 2 ^ 128 → map saturated s ≡ s
saturation_keeps_small [] h = refl
saturation_keeps_small (x ∷ s) h =
    let e : sum (x ∷ s) ≡ x + sum s = sum_by-cons (λ (y : ℕ). y) x s in
    let rest : sum s < 2 ^ 128 = omega arith in
    let here : saturated x ≡ x = omega arith in
    ap (λ (n : ℕ). n ∷ map saturated s) here ∙ ap (λ (t : List ℕ). x ∷ t) (saturation_keeps_small s rest)

-- Suppose that the sum of all lists on the stack is below 2^128. Then the rank-wise sum of two of these lists isn't cut off at 128 bits
pub or_exact : (old mid rest : List (List ℕ)) (x y z : List ℕ) → old ≡ mid ++ y ∷ [] → mid ≡ rest ++ x ∷ [] → total_of old < 2 ^ 128 → z ≡ map saturated (rank_sum x y) → z ≡ rank_sum x y
or_exact old mid rest x y z h k small is =
    is ∙ saturation_keeps_small (rank_sum x y) (omega (arith, total_push mid old y h, total_push rest mid x k, sum-rank_sum x y, small))

-- ---- the loop that takes steps

pub record StepsTakenSoFar (steps : List ListStep) (i : ℕ) (stack : List (List ℕ)) : Type 0 where
  pub lists : after_list_steps (drop i steps) (reverse stack) ≡ after_list_steps steps []
  pub total : total_of stack ≤ i * 2 ^ 32

pub no_steps_taken : (steps : List ListStep) (stack : List (List ℕ)) → stack ≡ [] → StepsTakenSoFar steps 0 stack
no_steps_taken steps stack h = record { lists = ap (λ (s : List (List ℕ)). after_list_steps steps (reverse s)) h; total = omega (arith, ap total_of h) }

pub take_one_step : (steps : List ListStep) (i : ℕ) (step : ListStep) (old new : List (List ℕ)) → StepsTakenSoFar steps i old → i < length steps → step ≡ get_or steps i step
    → reverse new ≡ after_list_step step (reverse old) → total_of new ≤ total_of old + 2 ^ 32 → StepsTakenSoFar steps (i + 1) new
take_one_step steps i step old new h is_below is lists total = record {
  lists = ap (after_list_steps (drop (i + 1) steps)) lists
      ∙ ap (λ (n : ℕ). after_list_steps (drop n steps) (after_list_step step (reverse old))) (add-one i)
      ∙ sym (ap (λ (s : List ListStep). after_list_steps s (reverse old)) (drop-cons steps i step is_below ∙ ap (λ (s : ListStep). s ∷ drop (suc i) steps) (sym is))) ∙ h.lists;
  total = omega (arith, h.total);
}

pub small_at : (steps : List ListStep) (i : ℕ) (step : ListStep) → list_all is_small steps ≡ true → i < length steps → step ≡ get_or steps i step → is_small step ≡ true
small_at steps i step h is_below is = ap is_small is ∙ AllPass-from_list_all is_small steps h i step is_below
