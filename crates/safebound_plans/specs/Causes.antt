-- Why calls for plans refuse. A call tests for its causes in a fixed order, and each cause also says that the earlier causes don't apply. So
-- for given arguments at most one refusal is possible. NoMemory is the exception: it needs no cause.
use Rattle.std.specs.Prelude.{◌≡◌, ℕ, ◌+◌, ◌<◌, ◌≤◌, ⊤, List, length}
use Rattle.limits.specs.Profile.{greatest_budget}
use Rattle.order_search.specs.Causes.{IsCause}
use Rattle.order_search.specs.declared.refusal.PlanError.TheVariants as plan_error
use Rattle.bushy_plan.specs.Causes.{IsCause as IsBushyCause}
use Rattle.safebound_lists.specs.declared.refusal.Refusal.{Refusal}
use Rattle.safebound_lists.specs.declared.refusal.Refusal.TheVariants as refusal
use Rattle.safebound_plans.specs.Given.{HaveOneForEachSet, MayPlan}
use Rattle.safebound_plans.specs.Bits.{all_in_128_bits}

-- the number of bounds is `count`, and it isn't 2^n for any n from 1 to `greatest_entries`
abbrev pub IsNumberOfBoundsCause : List ℕ → ℕ → Type 0
IsNumberOfBoundsCause bounds count = (count ≡ length bounds) × ((n : ℕ) → ¬ HaveOneForEachSet bounds n)

-- the budget is too large
abbrev pub IsBudgetCause : List ℕ → ℕ → ℕ → Type 0
IsBudgetCause bounds budget given = (n : ℕ) × HaveOneForEachSet bounds n × (given ≡ budget) × (greatest_budget < budget)

-- Why a call for an order refuses. The number of bounds isn't 2^n, the budget is too large, or there is too little room. Or no order is within the
-- budget, or no order has a bound for each level
abbrev pub IsOrderCause : List ℕ → ℕ → ℕ → Refusal → Type 0
IsOrderCause bounds budget room (refusal.Bounds count) = IsNumberOfBoundsCause bounds count
IsOrderCause bounds budget room (refusal.GivenBudget given) = IsBudgetCause bounds budget given
IsOrderCause bounds budget room (refusal.Room needed) = MayPlan bounds needed budget × (room < needed)
IsOrderCause bounds budget room (refusal.Budget least) =
    (n : ℕ) × MayPlan bounds n budget × (n ≤ room) × IsCause (all_in_128_bits bounds) n budget (plan_error.Budget least)
IsOrderCause bounds budget room refusal.PastBits =
    (n : ℕ) × MayPlan bounds n budget × (n ≤ room) × IsCause (all_in_128_bits bounds) n budget plan_error.PastBits
IsOrderCause bounds budget room refusal.NoMemory = ⊤
IsOrderCause bounds budget room _ = ⊥

-- Why a call for a tree refuses. The number of bounds isn't 2^n, the budget is too large, or there is too little room. Or no tree is within the
-- budget, or no tree has a bound for each node
abbrev pub IsTreeCause : List ℕ → ℕ → ℕ → Refusal → Type 0
IsTreeCause bounds budget room (refusal.Bounds count) = IsNumberOfBoundsCause bounds count
IsTreeCause bounds budget room (refusal.GivenBudget given) = IsBudgetCause bounds budget given
IsTreeCause bounds budget room (refusal.Room needed) = MayPlan bounds (needed + 1) budget × (room < needed)
IsTreeCause bounds budget room (refusal.Budget least) =
    (n : ℕ) × MayPlan bounds n budget × (n ≤ room + 1) × IsBushyCause (all_in_128_bits bounds) n budget (plan_error.Budget least)
IsTreeCause bounds budget room refusal.PastBits =
    (n : ℕ) × MayPlan bounds n budget × (n ≤ room + 1) × IsBushyCause (all_in_128_bits bounds) n budget plan_error.PastBits
IsTreeCause bounds budget room refusal.NoMemory = ⊤
IsTreeCause bounds budget room _ = ⊥
