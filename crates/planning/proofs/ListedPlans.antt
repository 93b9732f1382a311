-- In a plan over lists of scanned rows, no level has more rows than its bound.
use Rattle.std.proofs.Common.{◌≡◌, ◌⊎◌, ℕ, ◌<◌, ◌≤◌, ◌^◌, List, Ok, Err, length, take, get_or, ◌∙◌, arith}
use Rattle.std.specs.Prelude.{◌≢◌}
use Rattle.std.proofs.lemmas.List.{take_all}
use Rattle.limits.specs.Profile.{most_budget, most_entries, top_bound}
use Rattle.entry_sets.specs.Sets.{entries_of_set}
use Rattle.plans.specs.declared.left_deep.Plan.{Plan}
use Rattle.order_search.specs.Orders.{IsBest}
use Rattle.order_search.specs.declared.refusal.PlanError.TheVariants as error
use Rattle.plan_answers.proofs.OneAnswer.{never_out_of_memory}
use Rattle.query_types.specs.declared.types.Query.{Query}
use Rattle.join_graph.specs.Conjuncts.{equalities_of}
use Rattle.tree_bounds.specs.TreeBounds.{EntryBounds}
use Rattle.set_bounds.specs.AllSets.{in_every_set}
use Rattle.sql_meaning.specs.Answers.{conjuncts_of, entries_of}
use Rattle.sql_meaning.specs.Levels.{level_over}
use Rattle.sql_meaning.specs.Tables.{Tables}
use Rattle.join_steps.specs.Lists.{list_at, list_sizes, listed_row_count, AreOfScans}
use Rattle.join_steps.specs.Plans.{IsPlanOf}
use Rattle.join_steps.proofs.WholeScans.{list_sizes_at, list_sizes_length}
use Rattle.level_bounds.specs.Orders.{IsOrderOfSet}
use Rattle.level_bounds.proofs.SetNumbers.{order_of_all}
use Rattle.table_stats.proofs.ValueNumbers.{have_keys}
use Rattle.planning.specs.ListedBounds.{entry_bounds_over, set_bounds_over}
use Rattle.planning.specs.Plans.{planned_over}
use Rattle.planning.specs.Standing.{BoundLevels}
use Rattle.planning.proofs.FromLists.{is_best_from, level_within_budget, levels_bound, plan_over_lists, scan_kept, stand_in_every_set}
use Rattle.planning.proofs.ListBounds.{lists_stand, sizes_bound}

module _ (query : Query) (tables : Tables) (lists : List (List ℕ)) (accuracy : ℕ) where
  abbrev bounds : EntryBounds
  bounds = entry_bounds_over tables lists accuracy

  abbrev sets : List ℕ
  sets = set_bounds_over query tables lists accuracy

  abbrev scans : List ℕ
  scans = list_sizes query lists

  listed_levels : AreOfScans query tables lists → BoundLevels query tables lists (set_bounds_over query tables lists accuracy)
  listed_levels are =
      let keys = have_keys tables in
      levels_bound query tables lists keys.0 (in_every_set bounds)
      (stand_in_every_set query tables lists keys.0 bounds are (lists_stand tables lists accuracy query are keys.0 keys.1 (keys.2 (equalities_of query))))

  pub level_never_under_over : (subset : ℕ) (order : List ℕ) → AreOfScans query tables lists → subset < 2 ^ length query.from → IsOrderOfSet (entries_of_set subset) order
      → (length (level_over (conjuncts_of query tables) (list_at lists) order) ≤ get_or (set_bounds_over query tables lists accuracy) subset 0)
      ⊎ (get_or (set_bounds_over query tables lists accuracy) subset 0 ≡ top_bound)
  level_never_under_over subset order are fits o = listed_levels are subset order fits o

  module _ (budget : ℕ) where
    pub never_memory_over : planned_over query tables lists accuracy budget ≢ Err error.NoMemory
    unfolding planned_over
    never_memory_over = never_out_of_memory sets scans budget

    module _ (plan : Plan) (made : planned_over query tables lists accuracy budget ≡ Ok plan) where
      pub is_best_over : IsBest (set_bounds_over query tables lists accuracy) (length query.from) plan.order
      unfolding planned_over
      is_best_over = is_best_from sets scans (length query.from) budget (list_sizes_length query lists) plan made

      pub order_of_entries : IsOrderOfSet (entries_of query) plan.order
      order_of_entries = order_of_all (length query.from) plan.order is_best_over.is_order.entries is_best_over.is_order.once is_best_over.is_order.all

      pub whole_order : take (length query.from) plan.order ≡ plan.order
      whole_order = take_all (length query.from) plan.order (omega (arith, is_best_over.is_order.all))

      pub scan_is : (entry : ℕ) → entry < length query.from → get_or plan.scans entry 0 ≡ listed_row_count lists entry
      unfolding planned_over
      scan_is entry entry_in_range =
          scan_kept sets scans (length query.from) budget (list_sizes_length query lists) plan made entry ∙ list_sizes_at query lists entry entry_in_range

      pub level_within_over : (k : ℕ) → get_or plan.levels k 0 ≤ budget
      unfolding planned_over
      level_within_over k = level_within_budget sets scans (length query.from) budget (list_sizes_length query lists) plan made k

      pub is_plan_over : AreOfScans query tables lists → length query.from ≤ most_entries → budget ≤ most_budget → IsPlanOf query tables lists plan
      unfolding planned_over
      is_plan_over are within_limit budget_within_limit =
          plan_over_lists query tables lists sets scans (listed_levels are) (sizes_bound query tables lists are) budget plan within_limit budget_within_limit made
