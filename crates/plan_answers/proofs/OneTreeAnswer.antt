-- Apart from NoMemory, the contract of `choose_bushy` allows exactly one result, the computed result.
use Rattle.std.proofs.Common.{◌≡◌, ℕ, ◌-◌, ◌^◌, ◌<◌, ◌≤◌, List, length, Ok, Err, Result, refl, ap, sym, ◌∙◌, arith, inl, inr}
use Rattle.std.specs.Prelude.{◌⊎◌, ◌≢◌}
use Rattle.std.proofs.lemmas.Bool.{cases_lt, le-ltb, lt-ltb}
use Rattle.limits.specs.Profile.{most_entries}
use Rattle.order_search.specs.declared.refusal.PlanError.{PlanError}
use Rattle.order_search.specs.declared.refusal.PlanError.TheVariants as error
use Rattle.plans.specs.declared.bushy.BushyPlan.{BushyPlan}
use Rattle.bushy_plan.specs.BestTree.{AreOfBest, IsBest, IsBestPlan, IsLeastCost, cost}
use Rattle.bushy_plan.specs.Causes.{IsCause}
use Rattle.bushy_plan.specs.PlanTrees.{PlanTree, joins_from}
use Rattle.bushy_plan.proofs.OneBest.{least_of_best, one_best}
use Rattle.bushy_plan.proofs.Whole.{plan_from}
use Rattle.plan_answers.specs.AllTrees.{best_tree}
use Rattle.plan_answers.specs.PromisedTrees.{IsPromised}
use Rattle.plan_answers.specs.TreeAnswer.{answer_over, plan_over, tree_answer}
use Rattle.plan_answers.proofs.BestTreeComputed.{best_computed}

pub only_best : (bounds : List ℕ) (n : ℕ) (tree : PlanTree) → 0 < n → IsBest bounds n tree → tree ≡ best_tree bounds n
only_best bounds n tree some is = one_best bounds n tree (best_tree bounds n) is (best_computed bounds n some)

module _ (bounds scans : List ℕ) (budget : ℕ) where
  -- ---- the three cases of the result

  result_past_bits : (tree : PlanTree) → 2 ^ 128 - 2 < cost bounds tree → answer_over bounds scans budget tree ≡ Err error.PastBits
  result_past_bits tree above = rw (lt-ltb (2 ^ 128 - 2) (cost bounds tree) above) refl

  result_over_budget : (tree : PlanTree) → cost bounds tree ≤ 2 ^ 128 - 2 → budget < cost bounds tree → answer_over bounds scans budget tree ≡ Err (error.Budget (cost bounds tree))
  result_over_budget tree is_told above = rw (le-ltb (2 ^ 128 - 2) (cost bounds tree) is_told, lt-ltb budget (cost bounds tree) above) refl

  result_within_budget : (tree : PlanTree) → cost bounds tree ≤ 2 ^ 128 - 2 → cost bounds tree ≤ budget → answer_over bounds scans budget tree ≡ Ok (plan_over bounds scans tree)
  result_within_budget tree is_told within = rw (le-ltb (2 ^ 128 - 2) (cost bounds tree) is_told, le-ltb budget (cost bounds tree) within) refl

  -- ---- the computed result is allowed

  of_best : (tree : PlanTree) → IsBest bounds (length scans) tree → AreOfBest bounds (length scans) (cost bounds tree) (joins_from bounds (length scans) tree)
  of_best tree is = record { tree = tree; is_best = is; are_its = refl; is_its = refl }

  promised_for_tree : (tree : PlanTree) → length scans ≤ most_entries → IsBest bounds (length scans) tree → IsPromised bounds scans budget (answer_over bounds scans budget tree)
  promised_for_tree tree few is = elim (cases_lt (2 ^ 128 - 2) (cost bounds tree)) [
    | inl above ↦ rw (result_past_bits tree above) (record { plan = tt; best = tt; within = tt; scans_kept = tt; refused = (cost bounds tree, least_of_best bounds (length scans) tree is, above) })
    | inr is_told ↦ elim (cases_lt budget (cost bounds tree)) [
      | inl above ↦ rw (result_over_budget tree is_told above) (record { plan = tt; best = tt; within = tt; scans_kept = tt; refused = (least_of_best bounds (length scans) tree is, above, is_told) })
      | inr within ↦ rw (result_within_budget tree is_told within) (record {
        plan = plan_from bounds scans (plan_over bounds scans tree) few refl (of_best tree is);
        best = of_best tree is;
        within = within;
        scans_kept = refl;
        refused = tt;
      })
    ]
  ]

  pub is_promised : 1 ≤ length scans → length scans ≤ most_entries → IsPromised bounds scans budget (tree_answer bounds scans budget)
  unfolding tree_answer
  is_promised some few = promised_for_tree (best_tree bounds (length scans)) few (best_computed bounds (length scans) (omega arith))

  -- ---- no other result is allowed

  same_plan : (plan : BushyPlan) (tree : PlanTree) → plan.joins ≡ joins_from bounds (length scans) tree → plan.cost ≡ cost bounds tree → plan.scans ≡ scans → plan ≡ plan_over bounds scans tree
  same_plan plan tree has_joins has_cost has_scans = rw (sym has_joins, sym has_cost, sym has_scans) refl

  pub chosen : (plan : BushyPlan) → 1 ≤ length scans → budget ≤ 2 ^ 59 → IsBestPlan bounds (length scans) plan → plan.cost ≤ budget → plan.scans ≡ scans
      → tree_answer bounds scans budget ≡ Ok plan
  unfolding tree_answer
  chosen plan some few best within has_scans =
      ap (answer_over bounds scans budget) (sym (only_best bounds (length scans) best.tree (omega arith) best.is_best))
      ∙ result_within_budget best.tree (omega (arith, best.is_its)) (omega (arith, best.is_its))
      ∙ ap Ok (sym (same_plan plan best.tree best.are_its best.is_its has_scans))

  least_is : (least : ℕ) → 1 ≤ length scans → IsLeastCost bounds (length scans) least → least ≡ cost bounds (best_tree bounds (length scans))
  least_is least some is =
      let best : IsBest bounds (length scans) (best_tree bounds (length scans)) = best_computed bounds (length scans) (omega arith) in
      omega (arith, is.costs, is.none_cheaper (best_tree bounds (length scans)) best.is_tree, best.none_cheaper is.tree is.is_tree)

  pub refused : (e : PlanError) → 1 ≤ length scans → e ≢ error.NoMemory → IsCause bounds (length scans) budget e → tree_answer bounds scans budget ≡ Err e
  unfolding tree_answer
  refused (error.Budget least) some other cause =
      let is : least ≡ cost bounds (best_tree bounds (length scans)) = least_is least some cause.0 in
      result_over_budget (best_tree bounds (length scans)) (omega arith) (omega arith) ∙ ap (λ n. Err (error.Budget n)) (sym is)
  refused error.PastBits some other cause =
      let is : cause.0 ≡ cost bounds (best_tree bounds (length scans)) = least_is cause.0 some cause.1 in
      result_past_bits (best_tree bounds (length scans)) (omega arith)
  refused error.NoMemory some other cause = absurd (other refl)

  pub no_other_result : (answer : Result BushyPlan PlanError) → 1 ≤ length scans → budget ≤ 2 ^ 59 → IsPromised bounds scans budget answer → (answer ≡ Err error.NoMemory) ⊎ (answer ≡ tree_answer bounds scans budget)
  no_other_result (Ok plan) some few is = inr (sym (chosen plan some few is.best is.within is.scans_kept))
  no_other_result (Err error.NoMemory) some few is = inl refl
  no_other_result (Err error.PastBits) some few is = inr (sym (refused error.PastBits some (λ same. absurd (cc)) is.refused))
  no_other_result (Err (error.Budget least)) some few is = inr (sym (refused (error.Budget least) some (λ same. absurd (cc)) is.refused))

  never_out_of_memory_over : (tree : PlanTree) → answer_over bounds scans budget tree ≢ Err error.NoMemory
  never_out_of_memory_over tree same = elim (cases_lt (2 ^ 128 - 2) (cost bounds tree)) [
    | inl above ↦ absurd (cc (same, result_past_bits tree above))
    | inr is_told ↦ elim (cases_lt budget (cost bounds tree)) [
      | inl above ↦ absurd (cc (same, result_over_budget tree is_told above))
      | inr within ↦ absurd (cc (same, result_within_budget tree is_told within))
    ]
  ]

  pub never_out_of_memory : tree_answer bounds scans budget ≢ Err error.NoMemory
  unfolding tree_answer
  never_out_of_memory = never_out_of_memory_over (best_tree bounds (length scans))
