-- The causes of refusals: the least cost of a tree is too high.
use Rattle.std.specs.Prelude.{ℕ, List}
use Rattle.order_search.specs.Causes.{IsCauseOf}
use Rattle.order_search.specs.declared.refusal.PlanError.{PlanError}
use Rattle.bushy_plan.specs.BestTree.{IsLeastCost}

-- the least cost of a tree of n entries over these bounds is above the budget, or doesn't fit into 128 bits
abbrev pub IsCause : List ℕ → ℕ → ℕ → PlanError → Type 0
IsCause bounds n budget e = IsCauseOf (IsLeastCost bounds n) budget e
