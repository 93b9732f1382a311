-- The plan of a query over its tables is a plan over the scans.
use Rattle.std.proofs.Common.{◌≡◌, ℕ, ◌+◌, ◌<◌, ◌≤◌, List, Ok, Err, length, take, get_or, subst, arith}
use Rattle.std.specs.Prelude.{◌≢◌}
use Rattle.limits.specs.Profile.{most_budget, most_entries}
use Rattle.plans.specs.declared.left_deep.Plan.{Plan}
use Rattle.plans.specs.LeftDeep.{IsPlan}
use Rattle.order_search.specs.Orders.{IsBest}
use Rattle.order_search.specs.declared.refusal.PlanError.TheVariants as error
use Rattle.plan_answers.proofs.OneAnswer.{never_out_of_memory}
use Rattle.query_types.specs.declared.types.Query.{Query}
use Rattle.sql_meaning.specs.Tables.{Tables, row_counts}
use Rattle.join_steps.specs.Lists.{scans_of}
use Rattle.join_steps.specs.Plans.{IsPlanOf}
use Rattle.join_steps.proofs.WholeScans.{levels_of_scans}
use Rattle.level_bounds.specs.Scans.{level_over_entries, query_scan}
use Rattle.planning.specs.Bounds.{scan_bounds_of, set_bounds_of}
use Rattle.planning.specs.Plans.{planned}
use Rattle.planning.proofs.FromLists.{is_best_from, is_plan_from, level_within_budget, plan_over_lists, scan_kept}
use Rattle.planning.proofs.NeverUnder.{one_scan_each, scan_never_under, scan_bound_within_table, scans_are_bounded, levels_are_bounded}

module _ (query : Query) (tables : Tables) (accuracy budget : ℕ) where
  abbrev sets : List ℕ
  sets = set_bounds_of query tables accuracy

  abbrev scans : List ℕ
  scans = scan_bounds_of query tables accuracy

  pub planned_never_out_of_memory : planned query tables accuracy budget ≢ Err error.NoMemory
  unfolding planned
  planned_never_out_of_memory = never_out_of_memory sets scans budget

  module _ (plan : Plan) (made : planned query tables accuracy budget ≡ Ok plan) where
    pub is_plan : IsPlan (length query.from) plan
    unfolding planned
    is_plan = is_plan_from sets scans (length query.from) budget (one_scan_each query tables accuracy) plan made

    pub is_best : IsBest (set_bounds_of query tables accuracy) (length query.from) plan.order
    unfolding planned
    is_best = is_best_from sets scans (length query.from) budget (one_scan_each query tables accuracy) plan made

    -- ---- the bounds of the plan's scans

    scan_is : (entry : ℕ) → get_or plan.scans entry 0 ≡ get_or (scan_bounds_of query tables accuracy) entry 0
    unfolding planned
    scan_is entry = scan_kept sets scans (length query.from) budget (one_scan_each query tables accuracy) plan made entry

    pub scan_fits : (entry : ℕ) → entry < length query.from → length (query_scan query tables entry) ≤ get_or plan.scans entry 0
    scan_fits entry entry_in_range = omega (arith, scan_is entry, scan_never_under query tables accuracy entry entry_in_range)

    pub scan_within : (entry : ℕ) → entry < length query.from → get_or plan.scans entry 0 ≤ row_counts tables entry
    scan_within entry entry_in_range = omega (arith, scan_is entry, scan_bound_within_table query tables accuracy entry entry_in_range)

    -- ---- the bounds of the plan's levels

    pub level_within : (k : ℕ) → get_or plan.levels k 0 ≤ budget
    unfolding planned
    level_within k = level_within_budget sets scans (length query.from) budget (one_scan_each query tables accuracy) plan made k

    pub is_plan_of : length query.from ≤ most_entries → budget ≤ most_budget → IsPlanOf query tables (scans_of query tables) plan
    unfolding planned
    is_plan_of within_limit budget_within_limit =
        plan_over_lists query tables (scans_of query tables) sets scans (levels_are_bounded query tables accuracy) (scans_are_bounded query tables accuracy) budget plan within_limit budget_within_limit made

    pub level_fits : (k : ℕ) → length query.from ≤ most_entries → budget ≤ most_budget → k < length query.from
        → length (level_over_entries query tables (take (k + 1) plan.order)) ≤ get_or plan.levels k 0
    level_fits k within_limit budget_within_limit k_in_range =
        subst (λ (level : List (List ℕ)). length level ≤ get_or plan.levels k 0)
        (levels_of_scans query tables plan.order (k + 1) is_best.is_order.entries is_best.is_order.once)
        ((is_plan_of within_limit budget_within_limit).levels k k_in_range)
