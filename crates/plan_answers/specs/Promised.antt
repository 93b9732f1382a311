-- The promise of `choose` about its result, clause by clause.
use Rattle.std.specs.Prelude.{◌≡◌, ℕ, ◌≤◌, List, length, IfOk, IfErr, Result}
use Rattle.plans.specs.declared.left_deep.Plan.{Plan}
use Rattle.plans.specs.LeftDeep.{IsPlan}
use Rattle.order_search.specs.declared.refusal.PlanError.{PlanError}
use Rattle.order_search.specs.Causes.{IsCause}
use Rattle.order_search.specs.Orders.{IsBest, cost, levels as levels_of}

pub record IsPromised (bounds scans : List ℕ) (budget : ℕ) (answer : Result Plan PlanError) : Type 0 where
  pub plan : IfOk answer (IsPlan (length scans))
  pub best : IfOk answer (λ plan. IsBest bounds (length scans) plan.order)
  pub within : IfOk answer (λ plan. cost bounds plan.order ≤ budget)
  pub levels : IfOk answer (λ plan. plan.levels ≡ levels_of bounds plan.order)
  pub scans_kept : IfOk answer (λ plan. plan.scans ≡ scans)
  pub refused : IfErr answer (IsCause bounds (length scans) budget)
