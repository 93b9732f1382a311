-- Apart from NoMemory, `choose` has exactly one result: `plan_answer`.
use Rattle.std.proofs.Common.{◌≡◌, ℕ, ◌-◌, ◌^◌, ◌<◌, ◌≤◌, List, length, Ok, Err, Result, refl, ap, sym, ◌∙◌, arith, inl, inr}
use Rattle.std.specs.Prelude.{◌⊎◌, ◌≢◌}
use Rattle.std.proofs.lemmas.Bool.{cases_lt, le-ltb, lt-ltb}
use Rattle.plans.specs.declared.left_deep.Plan.{Plan}
use Rattle.order_search.specs.Causes.{IsCause}
use Rattle.order_search.specs.Orders.{IsBest, IsLeastCost, cost, levels}
use Rattle.order_search.specs.declared.refusal.PlanError.{PlanError}
use Rattle.order_search.specs.declared.refusal.PlanError.TheVariants as error
use Rattle.order_search.proofs.NoWorse.{least_of_best}
use Rattle.order_search.proofs.OneBest.{one_best}
use Rattle.order_search.proofs.Prefixes.{plan_from}
use Rattle.plan_answers.specs.BestOrder.{best_order}
use Rattle.plan_answers.specs.PlanAnswer.{result_for_order, plan_for_order, plan_answer}
use Rattle.plan_answers.specs.Promised.{IsPromised}
use Rattle.plan_answers.proofs.BestComputed.{best_computed}

pub only_best : (bounds : List ℕ) (n : ℕ) (order : List ℕ) → IsBest bounds n order → order ≡ best_order bounds n
only_best bounds n order is = one_best bounds n order (best_order bounds n) is (best_computed bounds n)

module _ (bounds scans : List ℕ) (budget : ℕ) where
  -- ---- the three cases of the computed result

  is_past_bits : (order : List ℕ) → 2 ^ 128 - 2 < cost bounds order → result_for_order bounds scans budget order ≡ Err error.PastBits
  is_past_bits order above = rw (lt-ltb (2 ^ 128 - 2) (cost bounds order) above) refl

  is_over_budget : (order : List ℕ) → cost bounds order ≤ 2 ^ 128 - 2 → budget < cost bounds order → result_for_order bounds scans budget order ≡ Err (error.Budget (cost bounds order))
  is_over_budget order fits_bits above = rw (le-ltb (2 ^ 128 - 2) (cost bounds order) fits_bits, lt-ltb budget (cost bounds order) above) refl

  is_within_budget : (order : List ℕ) → cost bounds order ≤ 2 ^ 128 - 2 → cost bounds order ≤ budget → result_for_order bounds scans budget order ≡ Ok (plan_for_order bounds scans order)
  is_within_budget order fits_bits within = rw (le-ltb (2 ^ 128 - 2) (cost bounds order) fits_bits, le-ltb budget (cost bounds order) within) refl

  -- ---- the promise of `choose` is true of the computed result

  promised_for_order : (order : List ℕ) → IsBest bounds (length scans) order → IsPromised bounds scans budget (result_for_order bounds scans budget order)
  promised_for_order order is = elim (cases_lt (2 ^ 128 - 2) (cost bounds order)) [
    | inl above ↦ rw (is_past_bits order above) (record { plan = tt; best = tt; within = tt; levels = tt; scans_kept = tt; refused = (cost bounds order, least_of_best bounds (length scans) order is, above) })
    | inr fits_bits ↦ elim (cases_lt budget (cost bounds order)) [
      | inl above ↦ rw (is_over_budget order fits_bits above) (record { plan = tt; best = tt; within = tt; levels = tt; scans_kept = tt; refused = (least_of_best bounds (length scans) order is, above, fits_bits) })
      | inr within ↦ rw (is_within_budget order fits_bits within) (record {
        plan = plan_from bounds scans (plan_for_order bounds scans order) is.is_order refl refl;
        best = is;
        within = within;
        levels = refl;
        scans_kept = refl;
        refused = tt;
      })
    ]
  ]

  pub is_promised : IsPromised bounds scans budget (plan_answer bounds scans budget)
  unfolding plan_answer
  is_promised = promised_for_order (best_order bounds (length scans)) (best_computed bounds (length scans))

  -- ---- the promise of `choose` is true of no other result

  same_plan : (plan : Plan) → plan.levels ≡ levels bounds plan.order → plan.scans ≡ scans → plan ≡ plan_for_order bounds scans plan.order
  same_plan plan has_levels has_scans = rw (sym has_levels, sym has_scans) refl

  pub chosen : (plan : Plan) → budget ≤ 20000000 → IsBest bounds (length scans) plan.order → cost bounds plan.order ≤ budget
      → plan.levels ≡ levels bounds plan.order → plan.scans ≡ scans → plan_answer bounds scans budget ≡ Ok plan
  unfolding plan_answer
  chosen plan few is within has_levels has_scans =
      ap (result_for_order bounds scans budget) (sym (only_best bounds (length scans) plan.order is))
      ∙ is_within_budget plan.order (omega arith) within
      ∙ ap Ok (sym (same_plan plan has_levels has_scans))

  least_is : (least : ℕ) → IsLeastCost bounds (length scans) least → least ≡ cost bounds (best_order bounds (length scans))
  least_is least is =
      let best : IsBest bounds (length scans) (best_order bounds (length scans)) = best_computed bounds (length scans) in
      omega (arith, is.costs, is.none_cheaper (best_order bounds (length scans)) best.is_order, best.none_cheaper is.order is.is_order)

  pub refused : (e : PlanError) → e ≢ error.NoMemory → IsCause bounds (length scans) budget e → plan_answer bounds scans budget ≡ Err e
  unfolding plan_answer
  refused (error.Budget least) other cause =
      let is : least ≡ cost bounds (best_order bounds (length scans)) = least_is least cause.0 in
      is_over_budget (best_order bounds (length scans)) (omega arith) (omega arith) ∙ ap (λ n. Err (error.Budget n)) (sym is)
  refused error.PastBits other cause =
      let is : cause.0 ≡ cost bounds (best_order bounds (length scans)) = least_is cause.0 cause.1 in
      is_past_bits (best_order bounds (length scans)) (omega arith)
  refused error.NoMemory other cause = absurd (other refl)

  pub no_other_result : (answer : Result Plan PlanError) → budget ≤ 20000000 → IsPromised bounds scans budget answer → (answer ≡ Err error.NoMemory) ⊎ (answer ≡ plan_answer bounds scans budget)
  no_other_result (Ok plan) few is = inr (sym (chosen plan few is.best is.within is.levels is.scans_kept))
  no_other_result (Err error.NoMemory) few is = inl refl
  no_other_result (Err error.PastBits) few is = inr (sym (refused error.PastBits (λ same. absurd (cc)) is.refused))
  no_other_result (Err (error.Budget least)) few is = inr (sym (refused (error.Budget least) (λ same. absurd (cc)) is.refused))

  never_out_of_memory_for_order : (order : List ℕ) → result_for_order bounds scans budget order ≢ Err error.NoMemory
  never_out_of_memory_for_order order same = elim (cases_lt (2 ^ 128 - 2) (cost bounds order)) [
    | inl above ↦ absurd (cc (same, is_past_bits order above))
    | inr fits_bits ↦ elim (cases_lt budget (cost bounds order)) [
      | inl above ↦ absurd (cc (same, is_over_budget order fits_bits above))
      | inr within ↦ absurd (cc (same, is_within_budget order fits_bits within))
    ]
  ]

  pub never_out_of_memory : plan_answer bounds scans budget ≢ Err error.NoMemory
  unfolding plan_answer
  never_out_of_memory = never_out_of_memory_for_order (best_order bounds (length scans))
