-- The causes of refusals.
use Rattle.std.specs.Prelude.{◌-◌, ◌^◌, ◌<◌, ◌≤◌, ℕ, List, ⊤}
use Rattle.order_search.specs.Orders.{IsLeastCost}
use Rattle.order_search.specs.declared.refusal.PlanError.{PlanError}
use Rattle.order_search.specs.declared.refusal.PlanError.TheVariants as error

-- the cause of a refusal: the least cost is above the budget, or above 2 ^ 128 - 2, the largest cost that a refusal can name. `IsLeast` says that a
-- number is the least cost. `NoMemory` needs no cause
abbrev pub IsCauseOf : (ℕ → Type 0) → ℕ → PlanError → Type 0
IsCauseOf IsLeast budget (error.Budget least) = IsLeast least × (budget < least) × (least ≤ 2 ^ 128 - 2)
IsCauseOf IsLeast budget error.PastBits = (least : ℕ) × IsLeast least × (2 ^ 128 - 2 < least)
IsCauseOf IsLeast budget error.NoMemory = ⊤

-- the cause of a refusal in the search for an order of n entries over these bounds
abbrev pub IsCause : List ℕ → ℕ → ℕ → PlanError → Type 0
IsCause bounds n budget e = IsCauseOf (IsLeastCost bounds n) budget e
