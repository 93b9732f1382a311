-- The bound of each inner node of a best tree is near the uncompressed bound. The node's bound is the bound of the set of its entries.
use Rattle.std.proofs.Common.{◌≡◌, ℕ, ◌+◌, ◌<◌, ◌≤◌, List, Ok, length, get_or, ap, sym, ◌∙◌, subst}
use Rattle.std.proofs.lemmas.List.{get_or-map}
use Rattle.std.proofs.lemmas.Option.{get_or_from_slice_get, slice_get_within}
use Rattle.limits.specs.Profile.{most_entries}
use Rattle.entry_sets.specs.Sets.{set_of}
use Rattle.plans.specs.declared.bushy.BushyPlan.{BushyPlan}
use Rattle.plans.specs.declared.bushy.Join.{Join}
use Rattle.plans.specs.TreePlans.{IsTreePlan}
use Rattle.tree_rows.specs.Trees.{entries_at}
use Rattle.plan_answers.specs.TreeAnswer.{tree_answer}
use Rattle.bushy_plan.specs.BestTree.{IsBestPlan}
use Rattle.query_types.specs.declared.types.Query.{Query}
use Rattle.sql_meaning.specs.Tables.{Tables}
use Rattle.join_steps.specs.Lists.{scans_of}
use Rattle.planning.specs.Bounds.{scan_bounds_of, set_bounds_of}
use Rattle.planning.proofs.NeverUnder.{scans_are_bounded}
use Rattle.bushy_planning.proofs.InnerNodes.{join_bound, node_bound, node_order, node_set_fits}
use Rattle.bushy_planning.proofs.ChosenTrees.{is_best, is_plan}
use Rattle.plan_nearness.specs.Nearness.{FiltersNoEntry, IsNear, NodesAreNear}
use Rattle.plan_nearness.proofs.SetsNear.{set_near}

module _ (query : Query) (tables : Tables) (accuracy budget : ℕ) (plan : BushyPlan) (no_filters : FiltersNoEntry query)
    (some : 1 ≤ length query.from) (few : length query.from ≤ most_entries)
    (made : tree_answer (set_bounds_of query tables accuracy) (scan_bounds_of query tables accuracy) budget ≡ Ok plan) where
  abbrev sets : List ℕ
  sets = set_bounds_of query tables accuracy

  abbrev n : ℕ
  n = length query.from

  is : IsTreePlan (length query.from) plan
  is = is_plan query tables (scans_of query tables) sets (scan_bounds_of query tables accuracy) budget plan (scans_are_bounded query tables accuracy) some few made

  best : IsBestPlan (set_bounds_of query tables accuracy) (length query.from) plan
  best = is_best query tables (scans_of query tables) sets (scan_bounds_of query tables accuracy) budget plan (scans_are_bounded query tables accuracy) some few made

  pub nodes_near : NodesAreNear query tables accuracy plan
  nodes_near k join here =
      let k_in_range : k < length plan.joins = slice_get_within plan.joins k join here in
      let its : join.bound ≡ get_or sets (set_of (entries_at plan (n + k))) 0 =
      sym (join_bound n sets plan is best k k_in_range
      ∙ get_or-map (λ (j : Join). j.bound) plan.joins k join 0 k_in_range
      ∙ ap (λ (j : Join). j.bound) (get_or_from_slice_get plan.joins k join join here))
      ∙ node_bound n sets plan is best k k_in_range in
      subst (IsNear query tables accuracy (entries_at plan (n + k))) (sym its)
      (set_near query tables accuracy (entries_at plan (n + k)) no_filters (node_set_fits n sets plan is best k k_in_range) (node_order n sets plan is best k k_in_range))
