-- The promise of `choose_bushy` about its result for at most `most_entries` entries, clause by clause. Two clauses of the contract are left out,
-- since they follow from the others: no order costs less, and the bound of each join is within the budget.
use Rattle.std.specs.Prelude.{◌≡◌, ℕ, ◌≤◌, List, length, IfOk, IfErr, Result}
use Rattle.order_search.specs.declared.refusal.PlanError.{PlanError}
use Rattle.plans.specs.TreePlans.{IsTreePlan}
use Rattle.plans.specs.declared.bushy.BushyPlan.{BushyPlan}
use Rattle.bushy_plan.specs.BestTree.{IsBestPlan}
use Rattle.bushy_plan.specs.Causes.{IsCause}

pub record IsPromised (bounds scans : List ℕ) (budget : ℕ) (answer : Result BushyPlan PlanError) : Type 0 where
  pub plan : IfOk answer (IsTreePlan (length scans))
  pub best : IfOk answer (IsBestPlan bounds (length scans))
  pub within : IfOk answer (λ plan. plan.cost ≤ budget)
  pub scans_kept : IfOk answer (λ plan. plan.scans ≡ scans)
  pub refused : IfErr answer (IsCause bounds (length scans) budget)
