-- The result of a choice among join trees, as a function of the bounds: the plan of the best tree, or a refusal.
use Rattle.std.specs.Prelude.{ℕ, ◌-◌, ◌^◌, nat_lt, if◌then◌else◌, List, length, Result, Ok, Err}
use Rattle.order_search.specs.declared.refusal.PlanError.{PlanError}
use Rattle.order_search.specs.declared.refusal.PlanError.TheVariants as error
use Rattle.plans.specs.declared.bushy.BushyPlan.{BushyPlan}
use Rattle.bushy_plan.specs.BestTree.{cost}
use Rattle.bushy_plan.specs.PlanTrees.{PlanTree, joins_from}
use Rattle.plan_answers.specs.AllTrees.{best_tree}

-- the plan of a tree: its joins with their bounds, the bounds of all scans, and the tree's cost
abbrev pub plan_over : List ℕ → List ℕ → PlanTree → BushyPlan
plan_over bounds scans tree = record { joins = joins_from bounds (length scans) tree; scans = scans; cost = cost bounds tree }

-- the result for a tree. If its cost doesn't fit into 128 bits, the tree is refused as past 128 bits. Otherwise it is refused if its cost is above
-- the budget
abbrev pub answer_over : List ℕ → List ℕ → ℕ → PlanTree → Result BushyPlan PlanError
answer_over bounds scans budget tree =
    if nat_lt (2 ^ 128 - 2) (cost bounds tree) then Err error.PastBits
    else if nat_lt budget (cost bounds tree) then Err (error.Budget (cost bounds tree))
    else Ok (plan_over bounds scans tree)

-- the result for a bound of each set of entries and a bound of each scan
unfoldable pub tree_answer : List ℕ → List ℕ → ℕ → Result BushyPlan PlanError
tree_answer bounds scans budget = answer_over bounds scans budget (best_tree bounds (length scans))
