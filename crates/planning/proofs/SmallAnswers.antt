-- The answers over small tables, by computation. The reduced scans of these tables are computed in SmallReductions.
use Rattle.std.proofs.Common.{◌≡◌, ℕ, Bool, true, ◌&&◌, List, [], ◌∷◌, Ok, length, map, refl, ap, ◌∙◌, arith}
use Rattle.std.specs.Prelude.{pos, slice_index}
use Rattle.std.specs.List.{filter}
use Rattle.std.proofs.lemmas.List.Elements.{filter_agree}
use Rattle.entry_sets.specs.Sets.{entries_of_set}
use Rattle.plans.specs.Examples.{plan_of}
use Rattle.plan_answers.specs.BestOrder.{best_order}
use Rattle.plan_answers.specs.PlanAnswer.{plan_answer}
use Rattle.csv_tables.specs.Rows.{Row}
use Rattle.query_grammar.specs.declared.tree.Op.TheVariants as op
use Rattle.query_types.specs.declared.types.Operand.{Operand}
use Rattle.query_types.specs.declared.types.Operand.TheVariants as operand
use Rattle.query_types.specs.declared.types.Query.{Query}
use Rattle.query_types.proofs.CondFacts.{entries_compare}
use Rattle.join_graph.specs.Conjuncts.{column_operand}
use Rattle.join_graph.specs.Examples.{triangle as triangle_equalities}
use Rattle.join_graph.proofs.Comparing.{equality_two}
use Rattle.sql_meaning.specs.Answers.{answer, entries_of, query_holds, selected}
use Rattle.sql_meaning.specs.Choices.{choices_of}
use Rattle.sql_meaning.specs.Conditions.{comparison_holds}
use Rattle.sql_meaning.specs.Examples.{triangle}
use Rattle.sql_meaning.specs.Tables.{Tables, row_counts}
use Rattle.sql_meaning.proofs.ConditionFacts.{holds_compare}
use Rattle.level_bounds.specs.Keys.{are_equal_at}
use Rattle.level_bounds.proofs.SmallTriangle.{triangle_joined}
use Rattle.query_bounds.specs.Examples.{two_table_query}
use Rattle.planning.specs.Examples.{small_tables}
use Rattle.reduced_scans.specs.Rounds.{after_rounds, reduced_of}
use Rattle.join_steps.specs.Lists.{scans_of}
use Rattle.planning.specs.ListedBounds.{set_bounds_over}
use Rattle.planning.specs.ReducedExamples.{crossed_tables, empty_first_tables, never_true_query, unjoined_entry_query}
use Rattle.planning.specs.Plans.{planned_reduced}
use Rattle.planning.proofs.SmallReductions.{empty_first_reduced, plan_computed, reduced_from}

-- the answer, computed by a single test that says whether every conjunct holds
answer_by_test : (query : Query) (tables : Tables) (test : (ℕ → ℕ) → Bool) → ((row_of : ℕ → ℕ) → query_holds query tables row_of ≡ test row_of)
    → answer query tables ≡ map (λ choice. selected query tables (slice_index choice)) (filter (λ choice. test (slice_index choice)) (choices_of (row_counts tables) (entries_of query)))
answer_by_test query tables test is =
    ap (λ (chosen : List (List ℕ)). map (λ choice. selected query tables (slice_index choice)) chosen)
    (filter_agree (λ choice. query_holds query tables (slice_index choice)) (λ choice. test (slice_index choice)) (λ choice. is (slice_index choice))
    (choices_of (row_counts tables) (entries_of query)))

abbrev equal : Tables → (ℕ → ℕ) → Operand → Operand → Bool
equal tables row_of left right = comparison_holds tables row_of op.Eq left right

-- ---- the answer of the query that joins R and S

pair_test : (row_of : ℕ → ℕ) → query_holds two_table_query small_tables row_of ≡ (equal small_tables row_of (column_operand 0 0) (column_operand 1 0) && true)
pair_test row_of = rw (holds_compare small_tables row_of op.Eq (column_operand 0 0) (column_operand 1 0)) refl

pub pair_answer : length (answer two_table_query small_tables) ≡ 6
pair_answer =
    ap (λ (rows : List Row). length rows)
    (answer_by_test two_table_query small_tables (λ row_of. equal small_tables row_of (column_operand 0 0) (column_operand 1 0) && true) pair_test)

-- ---- the answer with a condition that never holds

never_test : (row_of : ℕ → ℕ) → query_holds never_true_query small_tables row_of
    ≡ (equal small_tables row_of (column_operand 0 0) (column_operand 1 0) && (equal small_tables row_of (operand.Int (pos 1)) (operand.Int (pos 2)) && true))
never_test row_of =
    rw (
      holds_compare small_tables row_of op.Eq (column_operand 0 0) (column_operand 1 0),
      holds_compare small_tables row_of op.Eq (operand.Int (pos 1)) (operand.Int (pos 2)),
    ) refl

pub never_answer : answer never_true_query small_tables ≡ []
never_answer =
    answer_by_test never_true_query small_tables
    (λ row_of. equal small_tables row_of (column_operand 0 0) (column_operand 1 0) && (equal small_tables row_of (operand.Int (pos 1)) (operand.Int (pos 2)) && true)) never_test

-- ---- an empty table, and a table that isn't joined

empty_first_sets : set_bounds_over unjoined_entry_query empty_first_tables ([] ∷ [] ∷ (0 ∷ 1 ∷ []) ∷ []) 1 ≡ 1 ∷ 0 ∷ 0 ∷ 0 ∷ 2 ∷ 0 ∷ 0 ∷ 0 ∷ []
unfolding entries_of_set
empty_first_sets = rw (equality_two 0 0 1 0 (λ e. absurd (omega (arith, e)))) refl

empty_first_chosen : plan_answer (1 ∷ 0 ∷ 0 ∷ 0 ∷ 2 ∷ 0 ∷ 0 ∷ 0 ∷ []) (0 ∷ 0 ∷ 2 ∷ []) 1 ≡ Ok (plan_of (0 ∷ 1 ∷ 2 ∷ []) (0 ∷ 0 ∷ 2 ∷ []) (0 ∷ 0 ∷ 0 ∷ []))
unfolding plan_answer best_order
empty_first_chosen = refl

pub empty_first_plan : planned_reduced unjoined_entry_query empty_first_tables 1 1 ≡ Ok (plan_of (0 ∷ 1 ∷ 2 ∷ []) (0 ∷ 0 ∷ 2 ∷ []) (0 ∷ 0 ∷ 0 ∷ []))
empty_first_plan =
    plan_computed unjoined_entry_query empty_first_tables ([] ∷ [] ∷ (0 ∷ 1 ∷ []) ∷ []) 1 1 (1 ∷ 0 ∷ 0 ∷ 0 ∷ 2 ∷ 0 ∷ 0 ∷ 0 ∷ []) (0 ∷ 0 ∷ 2 ∷ []) empty_first_reduced empty_first_sets refl
    ∙ empty_first_chosen

-- ---- three tables joined in a cycle

abbrev two_each : List (List ℕ)
two_each = (0 ∷ 1 ∷ []) ∷ (0 ∷ 1 ∷ []) ∷ (0 ∷ 1 ∷ []) ∷ []

crossed_scans : scans_of triangle crossed_tables ≡ two_each
crossed_scans =
    rw (
      entries_compare op.Eq (column_operand 0 0) (column_operand 1 0),
      entries_compare op.Eq (column_operand 1 1) (column_operand 2 0),
      entries_compare op.Eq (column_operand 2 1) (column_operand 0 1),
    ) refl

crossed_rounds : after_rounds triangle_equalities (are_equal_at crossed_tables) 7 two_each ≡ two_each
crossed_rounds = refl

pub crossed_reduced : reduced_of triangle crossed_tables ≡ two_each
crossed_reduced = reduced_from triangle crossed_tables triangle_equalities two_each triangle_joined crossed_scans ∙ crossed_rounds

abbrev crossed_says : (ℕ → ℕ) → Bool
crossed_says row_of =
    equal crossed_tables row_of (column_operand 0 0) (column_operand 1 0)
    && (equal crossed_tables row_of (column_operand 1 1) (column_operand 2 0) && (equal crossed_tables row_of (column_operand 2 1) (column_operand 0 1) && true))

crossed_test : (row_of : ℕ → ℕ) → query_holds triangle crossed_tables row_of ≡ crossed_says row_of
crossed_test row_of =
    rw (
      holds_compare crossed_tables row_of op.Eq (column_operand 0 0) (column_operand 1 0),
      holds_compare crossed_tables row_of op.Eq (column_operand 1 1) (column_operand 2 0),
      holds_compare crossed_tables row_of op.Eq (column_operand 2 1) (column_operand 0 1),
    ) refl

pub crossed_answer : answer triangle crossed_tables ≡ []
crossed_answer = answer_by_test triangle crossed_tables crossed_says crossed_test
