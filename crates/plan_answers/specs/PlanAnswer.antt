-- The result of `choose`, by computation: the plan of the best order, or a refusal.
use Rattle.std.specs.Prelude.{ℕ, ◌-◌, ◌^◌, nat_lt, if◌then◌else◌, List, length, Result, Ok, Err}
use Rattle.plans.specs.declared.left_deep.Plan.{Plan}
use Rattle.order_search.specs.declared.refusal.PlanError.{PlanError}
use Rattle.order_search.specs.declared.refusal.PlanError.TheVariants as error
use Rattle.order_search.specs.Orders.{cost, levels}
use Rattle.plan_answers.specs.BestOrder.{best_order}

-- an order with the bounds of all scans and of its levels
abbrev pub plan_for_order : List ℕ → List ℕ → List ℕ → Plan
plan_for_order bounds scans order = record { order = order; scans = scans; levels = levels bounds order }

-- the result for an order. If its cost is above 2 ^ 128 - 2, the order is refused as past 128 bits. Otherwise it is refused if its cost is above the
-- budget
abbrev pub result_for_order : List ℕ → List ℕ → ℕ → List ℕ → Result Plan PlanError
result_for_order bounds scans budget order =
    if nat_lt (2 ^ 128 - 2) (cost bounds order) then Err error.PastBits
    else if nat_lt budget (cost bounds order) then Err (error.Budget (cost bounds order))
    else Ok (plan_for_order bounds scans order)

-- the result for the bounds of all sets of entries. `scans` has the bounds of all scans, and a plan has these bounds too
unfoldable pub plan_answer : List ℕ → List ℕ → ℕ → Result Plan PlanError
plan_answer bounds scans budget = result_for_order bounds scans budget (best_order bounds (length scans))
