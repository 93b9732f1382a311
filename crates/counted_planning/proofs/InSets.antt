-- The number of a set is the index of its bound in the list of counted bounds. So the laws of one set's bound carry over to the list.
use Rattle.std.proofs.Common.{◌≡◌, ◌⊎◌, ℕ, ◌^◌, ◌<◌, ◌≤◌, true, List, [], Ok, length, get_or, refl, sym, ◌∙◌, subst, arith, ◌+◌, take}
use Rattle.std.proofs.lemmas.List.FromFn.{get_or-map-range_with_len}
use Rattle.limits.specs.Profile.{most_budget, most_entries, top_bound}
use Rattle.degree_sequences.specs.Saturation.{saturated}
use Rattle.entry_sets.specs.Sets.{entries_of_set, set_of}
use Rattle.berge_tree.specs.declared.edges.Edge.{Edge}
use Rattle.plans.specs.declared.left_deep.Plan.{Plan}
use Rattle.order_search.specs.Orders.{IsBest}
use Rattle.plan_answers.specs.PlanAnswer.{plan_answer}
use Rattle.query_types.specs.declared.types.Query.{Query}
use Rattle.join_graph.specs.Conjuncts.{equalities_of}
use Rattle.join_graph.specs.Kept.{joins_within}
use Rattle.tree_bounds.specs.TreeBounds.{EntryBounds}
use Rattle.set_bounds.specs.AllSets.{in_every_set}
use Rattle.set_bounds.proofs.SetBySet.{bound_in_sets_at}
use Rattle.sql_meaning.specs.Answers.{conjuncts_of}
use Rattle.sql_meaning.specs.Levels.{all_hold, level_over, row_in}
use Rattle.sql_meaning.specs.Tables.{Tables}
use Rattle.level_bounds.specs.Keys.{JoinsEqualKeys}
use Rattle.level_bounds.specs.Orders.{IsOrderOfSet}
use Rattle.level_bounds.proofs.Lists.{all_filtered}
use Rattle.join_steps.specs.Lists.{AreOfScans, list_at, list_levels, list_sizes}
use Rattle.join_steps.specs.Plans.{IsPlanOf}
use Rattle.join_steps.proofs.WholeScans.{list_sizes_length}
use Rattle.table_stats.proofs.ValueNumbers.{have_keys}
use Rattle.reduced_scans.proofs.FamilyRows.{listed_row_in_range}
use Rattle.counted_bounds.specs.Bounds.{AllPartsAreCounted, CountsMade, counted_bound, counted_bounds_of_sets}
use Rattle.counted_bounds.proofs.NotAbove.{not_above}
use Rattle.counted_bounds.proofs.QueryBounds.{exact, never_under}
use Rattle.planning.specs.ListedBounds.{entry_bounds_over, set_bounds_over}
use Rattle.planning.specs.Standing.{BoundLevels, EntriesStand}
use Rattle.planning.proofs.FromLists.{dominate, have_lists, is_best_from, level_bound, level_within_budget, plan_over_lists}
use Rattle.planning.proofs.Levels.{prefix_below, prefix_of}
use Rattle.planning.proofs.ListBounds.{lists_stand, sizes_bound}

module _ (counted : CountsMade) (query : Query) (tables : Tables) (lists : List (List ℕ)) where
  abbrev sets : List ℕ
  sets = counted_bounds_of_sets counted query tables lists

  at : (subset : ℕ) → subset < 2 ^ length query.from → get_or sets subset 0 ≡ counted_bound counted query tables lists subset
  at subset fits = get_or-map-range_with_len (counted_bound counted query tables lists) 0 (2 ^ length query.from) subset subset 0 fits (omega arith)

  pub bound_levels : BoundLevels query tables lists (counted_bounds_of_sets counted query tables lists)
  bound_levels subset order fits o =
      subst (λ n. (length (level_over (conjuncts_of query tables) (list_at lists) order) ≤ n) ⊎ (n ≡ top_bound)) (sym (at subset fits))
      (never_under counted query tables lists subset order o)

  pub is_plan : (budget : ℕ) (plan : Plan) → AreOfScans query tables lists → length query.from ≤ most_entries → budget ≤ most_budget
      → plan_answer (counted_bounds_of_sets counted query tables lists) (list_sizes query lists) budget ≡ Ok plan → IsPlanOf query tables lists plan
  is_plan budget plan are within_limit budget_within_limit made =
      plan_over_lists query tables lists sets (list_sizes query lists) bound_levels (sizes_bound query tables lists are) budget plan within_limit budget_within_limit made

  pub exact_at : (subset : ℕ) (order : List ℕ) → subset < 2 ^ length query.from → IsOrderOfSet (entries_of_set subset) order → AllPartsAreCounted counted query tables subset
      → all_hold (conjuncts_of query tables) [] (row_in [] []) ≡ true
      → get_or (counted_bounds_of_sets counted query tables lists) subset 0 ≡ saturated (length (level_over (conjuncts_of query tables) (list_at lists) order))
  exact_at subset order fits o all constants = at subset fits ∙ exact counted query tables lists subset order o all constants

  -- the level's bound is at most the budget, so it is below the top bound and isn't saturated
  pub level_exact : (budget k : ℕ) (plan : Plan) → length query.from ≤ most_entries → budget ≤ most_budget
      → plan_answer (counted_bounds_of_sets counted query tables lists) (list_sizes query lists) budget ≡ Ok plan → k < length query.from
      → AllPartsAreCounted counted query tables (set_of (take (k + 1) plan.order)) → all_hold (conjuncts_of query tables) [] (row_in [] []) ≡ true
      → get_or plan.levels k 0 ≡ length (list_levels query tables lists plan.order (k + 1))
  level_exact budget k plan within_limit budget_within_limit made k_in_range all constants =
      let n : ℕ = length query.from in
      let scans : List ℕ = list_sizes query lists in
      let one_each : length (list_sizes query lists) ≡ length query.from = list_sizes_length query lists in
      let best : IsBest sets n plan.order = is_best_from sets scans n budget one_each plan made in
      omega (
        arith,
        exact_at (set_of (take (k + 1) plan.order)) (take (k + 1) plan.order) (prefix_below n (k + 1) plan.order best.is_order) (prefix_of n (k + 1) plan.order within_limit best.is_order)
            all constants,
        level_bound sets scans n budget one_each plan made k k_in_range,
        level_within_budget sets scans n budget one_each plan made k,
        budget_within_limit,
      )

  module _ (accuracy : ℕ) (are : AreOfScans query tables lists) (subset : ℕ) (fits : subset < 2 ^ length query.from) where
    abbrev bounds : EntryBounds
    bounds = entry_bounds_over tables lists accuracy

    abbrev es : List Edge
    es = equalities_of query

    pub not_above_at : get_or (counted_bounds_of_sets counted query tables lists) subset 0 ≤ get_or (set_bounds_over query tables lists accuracy) subset 0
    not_above_at =
        let keys = have_keys tables in
        let stand : EntriesStand query tables lists keys.0 (entry_bounds_over tables lists accuracy) = lists_stand tables lists accuracy query are keys.0 keys.1 (keys.2 es) in
        omega (
          arith,
          at subset fits,
          not_above query tables subset lists counted keys.0 bounds (listed_row_in_range query tables lists are) (all_filtered (joins_within subset) (JoinsEqualKeys tables keys.0) es (keys.2 es))
              (have_lists query tables lists keys.0 bounds are stand subset fits) (dominate query tables lists keys.0 bounds are stand subset fits),
          bound_in_sets_at (in_every_set bounds) es (length query.from) subset (set_bounds_over query tables lists accuracy) refl fits,
        )
