-- The bound of each level is near the uncompressed bound. The level's bound is the bound of the set of its entries.
use Rattle.std.proofs.Common.{◌≡◌, ℕ, zero, suc, ◌+◌, ◌*◌, ◌^◌, ◌<◌, ◌≤◌, Ok, List, length, take, get_or, ◌∙◌, subst, arith}
use Rattle.std.proofs.Math.Nat.{pow-succ', pow-zero}
use Rattle.std.proofs.lemmas.List.{length-take-le}
use Rattle.limits.specs.Profile.{most_entries}
use Rattle.entry_sets.specs.Sets.{set_of}
use Rattle.plans.specs.declared.left_deep.Plan.{Plan}
use Rattle.order_search.specs.Orders.{IsBest}
use Rattle.query_types.specs.declared.types.Query.{Query}
use Rattle.sql_meaning.specs.Tables.{Tables}
use Rattle.planning.specs.Bounds.{scan_bounds_of, set_bounds_of}
use Rattle.planning.specs.Plans.{planned}
use Rattle.planning.proofs.FromLists.{level_bound}
use Rattle.planning.proofs.Levels.{prefix_below, prefix_of}
use Rattle.planning.proofs.NeverUnder.{one_scan_each}
use Rattle.planning.proofs.PlanFacts.{is_best}
use Rattle.plan_nearness.specs.Nearness.{FiltersNoEntry, LevelsAreNear, uncompressed_bound}
use Rattle.plan_nearness.proofs.SetsNear.{set_near}

module _ (query : Query) (tables : Tables) (accuracy budget : ℕ) (plan : Plan) (no_filters : FiltersNoEntry query)
    (few : length query.from ≤ most_entries) (made : planned query tables accuracy budget ≡ Ok plan) where
  best : IsBest (set_bounds_of query tables accuracy) (length query.from) plan.order
  best = is_best query tables accuracy budget plan made

  bound_is : (k : ℕ) → k < length query.from
      → get_or plan.levels k 0 ≡ get_or (set_bounds_of query tables accuracy) (set_of (take (k + 1) plan.order)) 0
  unfolding planned
  bound_is k k_in_range =
      level_bound (set_bounds_of query tables accuracy) (scan_bounds_of query tables accuracy) (length query.from) budget
      (one_scan_each query tables accuracy) plan made k k_in_range

  pub levels_near : LevelsAreNear query tables accuracy plan
  levels_near k k_in_range =
      let entries : List ℕ = take (k + 1) plan.order in
      rw (bound_is k k_in_range)
      (set_near query tables accuracy entries no_filters (prefix_below (length query.from) (k + 1) plan.order best.is_order)
      (prefix_of (length query.from) (k + 1) plan.order few best.is_order))

-- ---- nearness at the usual accuracy, 1

one_power : (n : ℕ) → 1 ^ n ≡ 1
one_power zero = pow-zero 1
one_power (suc n) = pow-succ' 1 n ∙ omega (arith, one_power n)

module _ (query : Query) (tables : Tables) (budget : ℕ) (plan : Plan) (no_filters : FiltersNoEntry query)
    (few : length query.from ≤ most_entries) (made : planned query tables 1 budget ≡ Ok plan) where
  all_there : length plan.order ≡ length query.from
  all_there = (is_best query tables 1 budget plan made).is_order.all

  pub default_near : (k : ℕ) → k < length query.from
      → get_or plan.levels k 0 ≤ 2 ^ (k + 1) * uncompressed_bound query tables (take (k + 1) plan.order)
  default_near k k_in_range =
      let exact : ℕ = uncompressed_bound query tables (take (k + 1) plan.order) in
      let near : 1 ^ length (take (k + 1) plan.order) * get_or plan.levels k 0 ≤ 2 ^ length (take (k + 1) plan.order) * exact =
      levels_near query tables 1 budget plan no_filters few made k k_in_range in
      let size : length (take (k + 1) plan.order) ≡ k + 1 = length-take-le (k + 1) plan.order (omega (arith, all_there)) in
      let near_here : 1 ^ (k + 1) * get_or plan.levels k 0 ≤ 2 ^ (k + 1) * exact =
      subst (λ (n : ℕ). 1 ^ n * get_or plan.levels k 0 ≤ 2 ^ n * exact) size near in
      let alone : 1 * get_or plan.levels k 0 ≤ 2 ^ (k + 1) * exact =
      subst (λ (x : ℕ). x * get_or plan.levels k 0 ≤ 2 ^ (k + 1) * exact) (one_power (k + 1)) near_here in
      omega arith
