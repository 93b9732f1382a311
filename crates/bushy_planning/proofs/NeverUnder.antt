-- If no bound of a set is too low, no bound of a best tree is too low.
use Rattle.std.proofs.Common.{◌≡◌, inl, inr, ℕ, ◌+◌, ◌-◌, ◌<◌, ◌≤◌, List, [], length, get_or, subst, arith}
use Rattle.std.specs.List.{AllByRecursion}
use Rattle.std.proofs.lemmas.Bool.{cases_lt}
use Rattle.entry_sets.specs.Sets.{set_of}
use Rattle.query_types.specs.declared.types.Query.{Query}
use Rattle.sql_meaning.specs.Tables.{Tables}
use Rattle.plans.specs.declared.bushy.BushyPlan.{BushyPlan}
use Rattle.plans.specs.TreePlans.{IsTreePlan}
use Rattle.tree_rows.specs.Rooms.{bound_at}
use Rattle.tree_rows.specs.Trees.{entries_at, node_count}
use Rattle.tree_rows.proofs.RoomFacts.{each_bound_within_most, within_fits}
use Rattle.bushy_plan.specs.BestTree.{IsBestPlan}
use Rattle.bushy_join.specs.Trees.{chosen_rows, node_rows, IsTreePlanOf}
use Rattle.bushy_join.proofs.LeafRows.{leaf_fits, inner_node_is_no_leaf}
use Rattle.planning.specs.Standing.{BoundLevels, BoundLists}
use Rattle.bushy_planning.proofs.InnerNodes.{join_bound, node_bound, node_order, node_set_fits}

module _ (query : Query) (tables : Tables) (lists : List (List ℕ)) (sets : List ℕ) (plan : BushyPlan)
    (levels : BoundLevels query tables lists sets) (bound : BoundLists query tables lists plan.scans)
    (is : IsTreePlan (length query.from) plan) (small : AllByRecursion (λ join. join.bound ≤ 4000000) plan.joins) (best : IsBestPlan sets (length query.from) plan) where
  abbrev n : ℕ
  n = length query.from

  -- ---- bounds of inner nodes

  module _ (k : ℕ) (k_in_range : k < length plan.joins) where
    inner_fits : length (chosen_rows query tables lists (entries_at plan (n + k))) ≤ bound_at plan (n + k)
    inner_fits =
        let at : bound_at plan (n + k) ≡ get_or sets (set_of (entries_at plan (n + k))) 0 = node_bound n sets plan is best k k_in_range in
        elim (levels (set_of (entries_at plan (n + k))) (entries_at plan (n + k)) (node_set_fits n sets plan is best k k_in_range) (node_order n sets plan is best k k_in_range)) [
          | inl fits ↦ omega (arith, fits, at)
          | inr top ↦ absurd (omega (arith, top, at, join_bound n sets plan is best k k_in_range, each_bound_within_most 4000000 [] plan.joins tt small k))
        ]

  -- ---- bounds of all nodes

  pub node_fits : (node : ℕ) → node < node_count plan → length (node_rows query tables lists plan node) ≤ bound_at plan node
  node_fits node node_in_range = elim (cases_lt node n) [
    | inl is_leaf ↦ leaf_fits query tables lists plan n is bound.fit node is_leaf
    | inr inner ↦ (let place : n + (node - n) ≡ node = omega arith in
        rw (inner_node_is_no_leaf query tables lists plan n is node inner) (subst (λ (m : ℕ). length (chosen_rows query tables lists (entries_at plan m)) ≤ bound_at plan m) place
        (inner_fits (node - n) (omega (arith, node_in_range, inner, is.scans)))))
  ]

  pub never_under : AllByRecursion (λ rows. rows ≤ 4000000) plan.scans → IsTreePlanOf query tables lists plan
  never_under scans = record { for_each_entry = is; small = within_fits plan (record { scans = scans; joins = small }); scans = bound.fit; nodes = node_fits }
