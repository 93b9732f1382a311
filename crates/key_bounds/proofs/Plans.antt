-- No bound is too low in a plan with carried conjuncts.
use Rattle.std.proofs.Common.{◌≡◌, ◌≤◌, ℕ, Ok, length}
use Rattle.limits.specs.Profile.{most_budget, most_entries}
use Rattle.plans.specs.declared.left_deep.Plan.{Plan}
use Rattle.schema_types.specs.declared.types.Schema.{Schema}
use Rattle.query_types.specs.declared.types.Query.{Query}
use Rattle.sql_meaning.specs.Tables.{Tables}
use Rattle.join_steps.specs.Lists.{scans_of}
use Rattle.join_steps.specs.Plans.{IsPlanOf}
use Rattle.planning.specs.Bounds.{scan_bounds_of}
use Rattle.planning.specs.Standing.{BoundLevels}
use Rattle.planning.proofs.FromLists.{levels_bound, plan_over_lists}
use Rattle.planning.proofs.NeverUnder.{scans_are_bounded}
use Rattle.key_carriers.specs.DeclaredKeys.{DeclaredKeysHold}
use Rattle.key_bounds.specs.Bounds.{bounds_by_keys, set_bounds_by_keys}
use Rattle.key_bounds.specs.Plans.{planned_by_keys}
use Rattle.key_bounds.proofs.Standing.{stand_by_keys}

module _ (schema : Schema) (query : Query) (tables : Tables) (accuracy : ℕ) (holds : DeclaredKeysHold schema query tables) where
  pub levels_by_keys : BoundLevels query tables (scans_of query tables) (set_bounds_by_keys schema query tables accuracy)
  levels_by_keys =
      let stand = stand_by_keys schema query tables accuracy holds in
      levels_bound query tables (scans_of query tables) stand.0 (bounds_by_keys schema query tables accuracy) stand.1

  pub plan_by_keys : (budget : ℕ) (plan : Plan) → length query.from ≤ most_entries → budget ≤ most_budget → planned_by_keys schema query tables accuracy budget ≡ Ok plan
      → IsPlanOf query tables (scans_of query tables) plan
  unfolding planned_by_keys
  plan_by_keys budget plan within_limit budget_within_limit made =
      plan_over_lists query tables (scans_of query tables) (set_bounds_by_keys schema query tables accuracy) (scan_bounds_of query tables accuracy) levels_by_keys
      (scans_are_bounded query tables accuracy) budget plan within_limit budget_within_limit made
