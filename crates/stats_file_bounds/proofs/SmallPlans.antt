-- Plans from small files, by computation.
use Rattle.std.proofs.Common.{◌≡◌, ℕ, List, [], ◌∷◌, Ok, Err, refl, ap, ◌∙◌, arith}
use Rattle.entry_sets.specs.Sets.{entries_of_set}
use Rattle.stats_file_bounds.specs.Bounds.{scan_bounds_of_file, set_bounds_of_file}
use Rattle.stats_file_bounds.specs.Examples.{pair_with_itself, file_of_two, section}
use Rattle.join_graph.specs.Conjuncts.{column_operand}
use Rattle.join_graph.proofs.Comparing.{equality_two}
use Rattle.order_search.specs.declared.refusal.PlanError.TheVariants as plan_error
use Rattle.plan_answers.specs.BestOrder.{best_order}
use Rattle.plan_answers.specs.PlanAnswer.{plan_answer}
use Rattle.plans.specs.Examples.{plan_of}
use Rattle.query_bounds.specs.Examples.{two_table_query}
use Rattle.query_grammar.specs.declared.tree.Op.TheVariants as op
use Rattle.stats_file.specs.declared.types.StatsFile.{StatsFile}
use Rattle.query_types.proofs.CondFacts.{entries_compare}

abbrev both : StatsFile
both = file_of_two (section 0 6 (pair_with_itself (3 ∷ 3 ∷ []))) (section 1 5 (pair_with_itself (2 ∷ 2 ∷ 1 ∷ [])))

scans : scan_bounds_of_file two_table_query both ≡ 6 ∷ 5 ∷ []
scans = rw (entries_compare op.Eq (column_operand 0 0) (column_operand 1 0), equality_two 0 0 1 0 (λ e. absurd (omega (arith, e)))) refl

sets : set_bounds_of_file two_table_query both ≡ 1 ∷ 6 ∷ 5 ∷ 12 ∷ []
unfolding entries_of_set
sets = rw (entries_compare op.Eq (column_operand 0 0) (column_operand 1 0), equality_two 0 0 1 0 (λ e. absurd (omega (arith, e)))) refl

chosen : plan_answer (1 ∷ 6 ∷ 5 ∷ 12 ∷ []) (6 ∷ 5 ∷ []) 12 ≡ Ok (plan_of (1 ∷ 0 ∷ []) (6 ∷ 5 ∷ []) (5 ∷ 12 ∷ []))
unfolding plan_answer best_order
chosen = refl

refused : plan_answer (1 ∷ 6 ∷ 5 ∷ 12 ∷ []) (6 ∷ 5 ∷ []) 11 ≡ Err (plan_error.Budget 12)
unfolding plan_answer best_order
refused = refl

over_these : (budget : ℕ) → plan_answer (set_bounds_of_file two_table_query both) (scan_bounds_of_file two_table_query both) budget ≡ plan_answer (1 ∷ 6 ∷ 5 ∷ 12 ∷ []) (6 ∷ 5 ∷ []) budget
over_these budget =
    ap (λ (s : List ℕ). plan_answer s (scan_bounds_of_file two_table_query both) budget) sets
    ∙ ap (λ (s : List ℕ). plan_answer (1 ∷ 6 ∷ 5 ∷ 12 ∷ []) s budget) scans

pub small_plan : plan_answer (set_bounds_of_file two_table_query both) (scan_bounds_of_file two_table_query both) 12 ≡ Ok (plan_of (1 ∷ 0 ∷ []) (6 ∷ 5 ∷ []) (5 ∷ 12 ∷ []))
small_plan = over_these 12 ∙ chosen

pub small_refusal : plan_answer (set_bounds_of_file two_table_query both) (scan_bounds_of_file two_table_query both) 11 ≡ Err (plan_error.Budget 12)
small_refusal = over_these 11 ∙ refused
