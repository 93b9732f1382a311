-- The plans of two small tables, by computation.
use Rattle.std.proofs.Common.{◌≡◌, ℕ, List, [], ◌∷◌, Ok, Err, refl, ap, ◌∙◌, arith}
use Rattle.entry_sets.specs.Sets.{entries_of_set}
use Rattle.plans.specs.Examples.{plan_of}
use Rattle.order_search.specs.declared.refusal.PlanError.TheVariants as error
use Rattle.plan_answers.specs.BestOrder.{best_order}
use Rattle.plan_answers.specs.PlanAnswer.{plan_answer}
use Rattle.query_grammar.specs.declared.tree.Op.TheVariants as op
use Rattle.join_graph.specs.Conjuncts.{column_operand}
use Rattle.join_graph.proofs.Comparing.{equality_two}
use Rattle.query_bounds.specs.Examples.{two_table_query}
use Rattle.planning.specs.Bounds.{scan_bounds_of, set_bounds_of}
use Rattle.planning.specs.Examples.{small_tables}
use Rattle.planning.specs.Plans.{planned}
use Rattle.query_types.proofs.CondFacts.{entries_compare}

pub scan_bounds_within_tables : scan_bounds_of two_table_query small_tables 1 ≡ 6 ∷ 5 ∷ []
scan_bounds_within_tables = rw (entries_compare op.Eq (column_operand 0 0) (column_operand 1 0)) refl

pub small_sets : set_bounds_of two_table_query small_tables 1 ≡ 1 ∷ 6 ∷ 5 ∷ 12 ∷ []
unfolding entries_of_set
small_sets =
    rw (entries_compare op.Eq (column_operand 0 0) (column_operand 1 0), equality_two 0 0 1 0 (λ e. absurd (omega (arith, e)))) refl

pub finer_sets : set_bounds_of two_table_query small_tables 3 ≡ 1 ∷ 6 ∷ 5 ∷ 9 ∷ []
unfolding entries_of_set
finer_sets =
    rw (entries_compare op.Eq (column_operand 0 0) (column_operand 1 0), equality_two 0 0 1 0 (λ e. absurd (omega (arith, e)))) refl

chosen : plan_answer (1 ∷ 6 ∷ 5 ∷ 12 ∷ []) (6 ∷ 5 ∷ []) 12 ≡ Ok (plan_of (1 ∷ 0 ∷ []) (6 ∷ 5 ∷ []) (5 ∷ 12 ∷ []))
unfolding plan_answer best_order
chosen = refl

pub refused : plan_answer (1 ∷ 6 ∷ 5 ∷ 12 ∷ []) (6 ∷ 5 ∷ []) 11 ≡ Err (error.Budget 12)
unfolding plan_answer best_order
refused = refl

planned_computed : (budget : ℕ) → planned two_table_query small_tables 1 budget ≡ plan_answer (1 ∷ 6 ∷ 5 ∷ 12 ∷ []) (6 ∷ 5 ∷ []) budget
unfolding planned
planned_computed budget =
    ap (λ (bounds : List ℕ). plan_answer bounds (scan_bounds_of two_table_query small_tables 1) budget) small_sets
    ∙ ap (λ (scans : List ℕ). plan_answer (1 ∷ 6 ∷ 5 ∷ 12 ∷ []) scans budget) scan_bounds_within_tables

pub small_plan : planned two_table_query small_tables 1 12 ≡ Ok (plan_of (1 ∷ 0 ∷ []) (6 ∷ 5 ∷ []) (5 ∷ 12 ∷ []))
small_plan = planned_computed 12 ∙ chosen

pub small_refusal : planned two_table_query small_tables 1 11 ≡ Err (error.Budget 12)
small_refusal = planned_computed 11 ∙ refused
