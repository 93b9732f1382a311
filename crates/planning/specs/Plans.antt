-- Plans from any bounds of entries. Plans of a query from its statistics, or from lists of rows.
use Rattle.std.specs.Prelude.{ℕ, List, length, Result}
use Rattle.berge_tree.specs.declared.edges.Edge.{Edge}
use Rattle.plans.specs.declared.left_deep.Plan.{Plan}
use Rattle.order_search.specs.declared.refusal.PlanError.{PlanError}
use Rattle.plan_answers.specs.PlanAnswer.{plan_answer}
use Rattle.query_types.specs.declared.types.Query.{Query}
use Rattle.join_graph.specs.Conjuncts.{equalities_of}
use Rattle.tree_bounds.specs.TreeBounds.{EntryBounds}
use Rattle.set_bounds.specs.AllSets.{bounds_in_sets, in_every_set}
use Rattle.sql_meaning.specs.Tables.{Tables}
use Rattle.join_steps.specs.Lists.{list_sizes}
use Rattle.query_bounds.specs.Bounds.{entry_bounds}
use Rattle.gathered_stats.specs.Statistics.{statistics_of}
use Rattle.reduced_scans.specs.Rounds.{reduced_of}
use Rattle.planning.specs.Bounds.{scan_bounds_of}
use Rattle.planning.specs.ListedBounds.{entry_bounds_over}

-- the best order of `count` entries with its bounds, or why no order is within the budget. `es` has the equalities between the entries, and
-- `scans` the bound of each scan. For each set, `bounds` has a row bound of each entry and a degree sequence of each joined column
abbrev pub planned_from : (ℕ → EntryBounds) → List ℕ → List Edge → ℕ → ℕ → Result Plan PlanError
planned_from bounds scans es count budget = plan_answer (bounds_in_sets bounds es count) scans budget

-- the plan from statistics of the query's tables at an accuracy
unfoldable pub planned : Query → Tables → ℕ → ℕ → Result Plan PlanError
planned query tables accuracy budget =
    planned_from (in_every_set (entry_bounds query (statistics_of tables accuracy))) (scan_bounds_of query tables accuracy)
    (equalities_of query) (length query.from) budget

-- the plan from lists of rows at an accuracy
unfoldable pub planned_over : Query → Tables → List (List ℕ) → ℕ → ℕ → Result Plan PlanError
planned_over query tables lists accuracy budget =
    planned_from (in_every_set (entry_bounds_over tables lists accuracy)) (list_sizes query lists) (equalities_of query)
    (length query.from) budget

-- the plan from the reduced scans of the query at an accuracy
abbrev pub planned_reduced : Query → Tables → ℕ → ℕ → Result Plan PlanError
planned_reduced query tables accuracy budget = planned_over query tables (reduced_of query tables) accuracy budget
