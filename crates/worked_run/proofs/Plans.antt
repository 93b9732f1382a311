-- The bounds and the plan of the join, proved by computation.
use Rattle.std.proofs.Common.{◌≡◌, ℕ, List, [], ◌∷◌, Result, Ok, Err, refl, ap, ◌∙◌, arith}
use Rattle.entry_sets.specs.Sets.{entries_of_set}
use Rattle.plans.specs.Examples.{plan_of}
use Rattle.plans.specs.declared.left_deep.Plan.{Plan}
use Rattle.order_search.specs.declared.refusal.PlanError.{PlanError}
use Rattle.order_search.specs.declared.refusal.PlanError.TheVariants as error
use Rattle.outcomes.specs.Reads.{mapped}
use Rattle.plan_answers.specs.BestOrder.{best_order}
use Rattle.plan_answers.specs.PlanAnswer.{plan_answer}
use Rattle.plan_answers.specs.AllTrees.{best_tree}
use Rattle.plan_answers.specs.TreeAnswer.{tree_answer}
use Rattle.plans.specs.TreeExamples.{join, plan_of as tree_of}
use Rattle.plans.specs.Orders.{tree_of_order}
use Rattle.plans.specs.declared.bushy.BushyPlan.{BushyPlan}
use Rattle.query_grammar.specs.declared.tree.Op.TheVariants as op
use Rattle.join_graph.specs.Conjuncts.{column_operand}
use Rattle.join_graph.proofs.Comparing.{equality_two}
use Rattle.query_bounds.specs.Examples.{two_table_query}
use Rattle.planning.specs.Bounds.{scan_bounds_of, set_bounds_of}
use Rattle.table_files.specs.EntryTables.{tables_in}
use Rattle.table_files.specs.Examples.{two_tables}
use Rattle.prepared_runs.specs.Shapes.{answer_of, planned_by}
use Rattle.prepared_runs.specs.Sources.{sets_by, scans_by, bounds_and_lists_by}
use Rattle.safebound_words.specs.declared.command.ListSource.TheVariants as sources
use Rattle.safebound_words.specs.declared.command.Shape.{Shape}
use Rattle.safebound_words.specs.declared.command.Shape.TheVariants as shapes
use Rattle.planning.proofs.SmallPlans.{refused}
use Rattle.worked_run.specs.Meaning.{small_rows}
use Rattle.query_types.proofs.CondFacts.{entries_compare}

scan_bounds_are : scan_bounds_of two_table_query (tables_in small_rows) 1 ≡ 6 ∷ 5 ∷ []
scan_bounds_are = rw (entries_compare op.Eq (column_operand 0 0) (column_operand 1 0)) refl

set_bounds_are : set_bounds_of two_table_query (tables_in small_rows) 1 ≡ 1 ∷ 6 ∷ 5 ∷ 12 ∷ []
unfolding entries_of_set
set_bounds_are = rw (entries_compare op.Eq (column_operand 0 0) (column_operand 1 0), equality_two 0 0 1 0 (λ e. absurd (omega (arith, e)))) refl

-- the choice among orders over these bounds, within the usual budget
best_order_is : plan_answer (1 ∷ 6 ∷ 5 ∷ 12 ∷ []) (6 ∷ 5 ∷ []) 1000000 ≡ Ok (plan_of (1 ∷ 0 ∷ []) (6 ∷ 5 ∷ []) (5 ∷ 12 ∷ []))
unfolding plan_answer best_order
best_order_is = refl

-- the choice among trees over these bounds: there is only one tree
best_tree_is : tree_answer (1 ∷ 6 ∷ 5 ∷ 12 ∷ []) (6 ∷ 5 ∷ []) 1000000 ≡ Ok (tree_of (join 0 1 12 ∷ []) (6 ∷ 5 ∷ []) 12)
unfolding best_tree tree_answer
best_tree_is = refl

planned_by_these_bounds : (shape : Shape) (budget : ℕ) → planned_by shape (bounds_and_lists_by sources.Columns two_tables two_table_query (tables_in small_rows)) 1 budget
    ≡ answer_of shape (1 ∷ 6 ∷ 5 ∷ 12 ∷ []) (6 ∷ 5 ∷ []) budget
unfolding planned_by sets_by scans_by
planned_by_these_bounds shape budget =
    ap (λ (bounds : List ℕ). answer_of shape bounds (scan_bounds_of two_table_query (tables_in small_rows) 1) budget) set_bounds_are
    ∙ ap (λ (bounds : List ℕ). answer_of shape (1 ∷ 6 ∷ 5 ∷ 12 ∷ []) bounds budget) scan_bounds_are

abbrev as_order : Result Plan PlanError → Result BushyPlan PlanError
as_order answer = mapped (λ plan. tree_of_order plan) answer

pub plan_found : planned_by shapes.Order (bounds_and_lists_by sources.Columns two_tables two_table_query (tables_in small_rows)) 1 1000000
    ≡ Ok (tree_of_order (plan_of (1 ∷ 0 ∷ []) (6 ∷ 5 ∷ []) (5 ∷ 12 ∷ [])))
plan_found = planned_by_these_bounds shapes.Order 1000000 ∙ ap as_order best_order_is

pub tree_found : planned_by shapes.Tree (bounds_and_lists_by sources.Columns two_tables two_table_query (tables_in small_rows)) 1 1000000
    ≡ Ok (tree_of (join 0 1 12 ∷ []) (6 ∷ 5 ∷ []) 12)
tree_found = planned_by_these_bounds shapes.Tree 1000000 ∙ best_tree_is

pub plan_refused : planned_by shapes.Order (bounds_and_lists_by sources.Columns two_tables two_table_query (tables_in small_rows)) 1 11 ≡ Err (error.Budget 12)
plan_refused = planned_by_these_bounds shapes.Order 11 ∙ ap as_order refused
