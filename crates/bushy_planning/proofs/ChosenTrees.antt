-- The chosen tree over lists of rows is a plan, and no bound of this plan is too low.
use Rattle.std.proofs.Common.{◌≡◌, ◌⊎◌, inl, inr, ℕ, suc, ◌<◌, ◌≤◌, List, [], ◌∷◌, length, get_or, Ok, Err, Result, ap, sym, ◌∙◌, subst, arith}
use Rattle.std.specs.Prelude.{IfOk}
use Rattle.std.specs.List.{AllByRecursion}
use Rattle.limits.specs.Profile.{most_entries}
use Rattle.query_types.specs.declared.types.Query.{Query}
use Rattle.sql_meaning.specs.Tables.{Tables, row_counts}
use Rattle.plans.specs.declared.bushy.BushyPlan.{BushyPlan}
use Rattle.plans.specs.declared.bushy.Join.{Join}
use Rattle.plans.specs.TreePlans.{IsTreePlan}
use Rattle.bushy_plan.specs.BestTree.{IsBestPlan}
use Rattle.bushy_plan.proofs.Costs.{greatest_at_most_cost}
use Rattle.bushy_plan.proofs.Numbering.{bounds_at_most}
use Rattle.order_search.specs.declared.refusal.PlanError.{PlanError}
use Rattle.order_search.specs.declared.refusal.PlanError.TheVariants as error
use Rattle.plan_answers.specs.PromisedTrees.{IsPromised}
use Rattle.plan_answers.specs.TreeAnswer.{tree_answer}
use Rattle.plan_answers.proofs.OneTreeAnswer.{is_promised}
use Rattle.tree_rows.specs.Rooms.{bound_at}
use Rattle.tree_rows.specs.Trees.{node_count}
use Rattle.bushy_join.specs.Trees.{node_rows, IsTreePlanOf}
use Rattle.planning.specs.declared.known.QueryBounds.{QueryBounds}
use Rattle.planning.specs.HasBounds.{HasBounds}
use Rattle.planning.specs.Standing.{BoundLevels, BoundLists}
use Rattle.bushy_planning.proofs.NeverUnder.{never_under, node_fits}

each_within : (most : ℕ) (xs : List ℕ) → ((i : ℕ) → i < length xs → get_or xs i 0 ≤ most) → AllByRecursion (λ rows. rows ≤ most) xs
each_within most [] within_most = tt
each_within most (x ∷ xs) within_most = (within_most 0 (omega arith), each_within most xs (λ i i_in_range. within_most (suc i) (omega arith)))

-- ---- the result is a plan with these bounds of scans

module _ (query : Query) (tables : Tables) (lists : List (List ℕ)) (sets scans : List ℕ) (budget : ℕ) (plan : BushyPlan) (bound : BoundLists query tables lists scans)
    (some : 1 ≤ length query.from) (few : length query.from ≤ most_entries) (made : tree_answer sets scans budget ≡ Ok plan) where
  promised : IsPromised sets scans budget (Ok plan)
  promised =
      let P : Result BushyPlan PlanError → Type 0 = IsPromised sets scans budget in
      subst P made (is_promised sets scans budget (omega (arith, some, bound.one_each)) (omega (arith, few, bound.one_each)))

  pub is_plan : IsTreePlan (length query.from) plan
  is_plan = subst (λ (n : ℕ). IsTreePlan n plan) bound.one_each promised.plan

  pub scans_kept : plan.scans ≡ scans
  scans_kept = promised.scans_kept

  pub is_best : IsBestPlan sets (length query.from) plan
  is_best = subst (λ (n : ℕ). IsBestPlan sets n plan) bound.one_each promised.best

  its_lists : BoundLists query tables lists plan.scans
  its_lists = subst (BoundLists query tables lists) (sym promised.scans_kept) bound

  joins_within_limit : budget ≤ 4000000 → AllByRecursion (λ join. join.bound ≤ 4000000) plan.joins
  joins_within_limit budget_within_limit =
      let best = is_best in
      subst (AllByRecursion (λ (join : Join). join.bound ≤ 4000000)) (sym best.are_its)
      (bounds_at_most sets (length query.from) 4000000 best.tree (omega (arith, greatest_at_most_cost sets best.tree, best.is_its, promised.within, budget_within_limit)))

  -- ---- no bound of the plan is too low

  pub nodes_fit : BoundLevels query tables lists sets → budget ≤ 4000000 → (node : ℕ) → node < node_count plan
      → length (node_rows query tables lists plan node) ≤ bound_at plan node
  nodes_fit levels budget_within_limit = node_fits query tables lists sets plan levels its_lists is_plan (joins_within_limit budget_within_limit) is_best

  pub over_lists : BoundLevels query tables lists sets → budget ≤ 4000000 → ((entry : ℕ) → entry < length query.from → row_counts tables entry ≤ 4000000)
      → IsTreePlanOf query tables lists plan
  over_lists levels budget_within_limit tables_within_limit =
      never_under query tables lists sets plan levels its_lists is_plan (joins_within_limit budget_within_limit) is_best
      (subst (AllByRecursion (λ (rows : ℕ). rows ≤ 4000000)) (sym promised.scans_kept)
      (each_within 4000000 scans (λ entry entry_in_range.
      let there : entry < length query.from = omega (arith, entry_in_range, bound.one_each) in
      omega (arith, bound.within entry there, tables_within_limit entry there))))

-- ---- the bounds are given by a `QueryBounds`

pub answer_given : (sets scans : List ℕ) (known : QueryBounds) → HasBounds sets scans known → (budget : ℕ) (answer : Result BushyPlan PlanError)
    → (answer ≡ Err error.NoMemory) ⊎ (answer ≡ tree_answer known.sets known.scans budget) → (answer ≡ Err error.NoMemory) ⊎ (answer ≡ tree_answer sets scans budget)
answer_given sets scans known gives budget answer (inl none) = inl none
answer_given sets scans known gives budget answer (inr is) =
    inr (is ∙ ap (λ (s : List ℕ). tree_answer s known.scans budget) gives.sets ∙ ap (λ (s : List ℕ). tree_answer sets s budget) gives.scans)

pub holds_for_plan : (P : BushyPlan → Type 0) (expected answer : Result BushyPlan PlanError) → (answer ≡ Err error.NoMemory) ⊎ (answer ≡ expected)
    → ((plan : BushyPlan) → expected ≡ Ok plan → P plan) → IfOk answer P
holds_for_plan P expected (Ok plan) (inl none) h = absurd (cc)
holds_for_plan P expected (Ok plan) (inr is) h = h plan (sym is)
holds_for_plan P expected (Err e) is h = tt
