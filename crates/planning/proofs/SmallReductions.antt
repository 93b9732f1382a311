-- The reduced scans and plans of small tables, by computation.
use Rattle.std.proofs.Common.{◌≡◌, ℕ, ◌+◌, true, not, ◌&&◌, ◌||◌, List, [], ◌∷◌, Ok, refl, ap, ◌∙◌, arith}
use Rattle.std.specs.Prelude.{pos}
use Rattle.std.specs.List.{list_all, range_with_len}
use Rattle.std.proofs.lemmas.List.Elements.{filter_agree}
use Rattle.berge_tree.specs.declared.edges.Edge.{Edge}
use Rattle.berge_tree.specs.Testing.{edge_of}
use Rattle.entry_sets.specs.Sets.{entries_of_set}
use Rattle.plans.specs.Examples.{plan_of}
use Rattle.plan_answers.specs.BestOrder.{best_order}
use Rattle.plan_answers.specs.PlanAnswer.{plan_answer}
use Rattle.query_grammar.specs.declared.tree.Op.TheVariants as op
use Rattle.query_types.specs.declared.types.Operand.TheVariants as operand
use Rattle.query_types.specs.declared.types.Query.{Query}
use Rattle.query_types.proofs.CondFacts.{entries_compare}
use Rattle.join_graph.specs.Conjuncts.{column_operand, equalities_of}
use Rattle.join_graph.specs.Examples.{triangle as triangle_equalities}
use Rattle.join_graph.proofs.Comparing.{equality_literal, equality_two}
use Rattle.sql_meaning.specs.Answers.{conjuncts_of}
use Rattle.sql_meaning.specs.Conditions.{comparison_holds}
use Rattle.sql_meaning.specs.Examples.{triangle}
use Rattle.sql_meaning.specs.Levels.{is_own_conjunct}
use Rattle.sql_meaning.specs.Tables.{Tables}
use Rattle.sql_meaning.proofs.ConditionFacts.{holds_compare}
use Rattle.level_bounds.specs.Examples.{three_tables}
use Rattle.level_bounds.specs.Keys.{are_equal_at}
use Rattle.level_bounds.specs.Scans.{query_scan}
use Rattle.level_bounds.proofs.SmallTriangle.{triangle_joined}
use Rattle.query_bounds.specs.Examples.{two_table_query}
use Rattle.planning.specs.Examples.{small_tables}
use Rattle.reduced_scans.specs.Rounds.{after_rounds, reduced_of, rows_in_all}
use Rattle.join_steps.specs.Lists.{scans_of, list_sizes}
use Rattle.planning.specs.ListedBounds.{set_bounds_over}
use Rattle.planning.specs.ReducedExamples.{chain_query, region_query, chain_tables, empty_first_tables, never_true_query, region_tables, unjoined_entry_query}
use Rattle.planning.specs.Plans.{planned_over, planned_reduced}

-- ---- reduced scans and plans, from computed equalities, scans and bounds

pub reduced_from : (query : Query) (tables : Tables) (es : List Edge) (scans : List (List ℕ)) → equalities_of query ≡ es → scans_of query tables ≡ scans
    → reduced_of query tables ≡ after_rounds es (are_equal_at tables) (rows_in_all scans + 1) scans
unfolding reduced_of
reduced_from query tables es scans are_es are_scans =
    ap (λ (s : List Edge). after_rounds s (are_equal_at tables) (rows_in_all (scans_of query tables) + 1) (scans_of query tables)) are_es
    ∙ ap (λ (s : List (List ℕ)). after_rounds es (are_equal_at tables) (rows_in_all s + 1) s) are_scans

pub plan_computed : (query : Query) (tables : Tables) (lists : List (List ℕ)) (accuracy budget : ℕ) (sets scans : List ℕ) → reduced_of query tables ≡ lists
    → set_bounds_over query tables lists accuracy ≡ sets → list_sizes query lists ≡ scans → planned_reduced query tables accuracy budget ≡ plan_answer sets scans budget
unfolding planned_over
plan_computed query tables lists accuracy budget sets scans are_lists are_sets are_scans =
    ap (λ (s : List (List ℕ)). planned_over query tables s accuracy budget) are_lists
    ∙ ap (λ (s : List ℕ). plan_answer s (list_sizes query lists) budget) are_sets
    ∙ ap (λ (s : List ℕ). plan_answer sets s budget) are_scans

-- ---- the query that joins R and S

pair_joined : equalities_of two_table_query ≡ edge_of 0 0 1 0 ∷ []
pair_joined = rw (equality_two 0 0 1 0 (λ e. absurd (omega (arith, e)))) refl

pair_scans : scans_of two_table_query small_tables ≡ (0 ∷ 1 ∷ 2 ∷ 3 ∷ 4 ∷ 5 ∷ []) ∷ (0 ∷ 1 ∷ 2 ∷ 3 ∷ 4 ∷ []) ∷ []
pair_scans = rw (entries_compare op.Eq (column_operand 0 0) (column_operand 1 0)) refl

pair_rounds : after_rounds (edge_of 0 0 1 0 ∷ []) (are_equal_at small_tables) 12 ((0 ∷ 1 ∷ 2 ∷ 3 ∷ 4 ∷ 5 ∷ []) ∷ (0 ∷ 1 ∷ 2 ∷ 3 ∷ 4 ∷ []) ∷ [])
    ≡ (0 ∷ 1 ∷ 2 ∷ []) ∷ (0 ∷ 1 ∷ []) ∷ []
pair_rounds = refl

pub pair_reduced : reduced_of two_table_query small_tables ≡ (0 ∷ 1 ∷ 2 ∷ []) ∷ (0 ∷ 1 ∷ []) ∷ []
pair_reduced = reduced_from two_table_query small_tables (edge_of 0 0 1 0 ∷ []) ((0 ∷ 1 ∷ 2 ∷ 3 ∷ 4 ∷ 5 ∷ []) ∷ (0 ∷ 1 ∷ 2 ∷ 3 ∷ 4 ∷ []) ∷ []) pair_joined pair_scans ∙ pair_rounds

pair_sets : set_bounds_over two_table_query small_tables ((0 ∷ 1 ∷ 2 ∷ []) ∷ (0 ∷ 1 ∷ []) ∷ []) 1 ≡ 1 ∷ 3 ∷ 2 ∷ 6 ∷ []
unfolding entries_of_set
pair_sets = rw (equality_two 0 0 1 0 (λ e. absurd (omega (arith, e)))) refl

pair_chosen : plan_answer (1 ∷ 3 ∷ 2 ∷ 6 ∷ []) (3 ∷ 2 ∷ []) 6 ≡ Ok (plan_of (1 ∷ 0 ∷ []) (3 ∷ 2 ∷ []) (2 ∷ 6 ∷ []))
unfolding plan_answer best_order
pair_chosen = refl

pub pair_plan : planned_reduced two_table_query small_tables 1 6 ≡ Ok (plan_of (1 ∷ 0 ∷ []) (3 ∷ 2 ∷ []) (2 ∷ 6 ∷ []))
pair_plan = plan_computed two_table_query small_tables ((0 ∷ 1 ∷ 2 ∷ []) ∷ (0 ∷ 1 ∷ []) ∷ []) 1 6 (1 ∷ 3 ∷ 2 ∷ 6 ∷ []) (3 ∷ 2 ∷ []) pair_reduced pair_sets refl ∙ pair_chosen

-- ---- the query that joins O and C

region_joined : equalities_of region_query ≡ edge_of 0 1 1 0 ∷ []
region_joined = rw (equality_two 0 1 1 0 (λ e. absurd (omega (arith, e))), equality_literal (column_operand 1 1) (operand.Int (pos 3)) refl) refl

in_region : (row : ℕ) → list_all (λ c. not (is_own_conjunct c 1) || c.holds (λ e. row)) (conjuncts_of region_query region_tables)
    ≡ (comparison_holds region_tables (λ e. row) op.Eq (column_operand 1 1) (operand.Int (pos 3)) && true)
in_region row =
    rw (
      entries_compare op.Eq (column_operand 0 1) (column_operand 1 0),
      entries_compare op.Eq (column_operand 1 1) (operand.Int (pos 3)),
      holds_compare region_tables (λ e. row) op.Eq (column_operand 1 1) (operand.Int (pos 3)),
    ) refl

o_scan : query_scan region_query region_tables 0 ≡ 0 ∷ 1 ∷ 2 ∷ 3 ∷ 4 ∷ []
o_scan = rw (entries_compare op.Eq (column_operand 0 1) (column_operand 1 0), entries_compare op.Eq (column_operand 1 1) (operand.Int (pos 3))) refl

c_scan : query_scan region_query region_tables 1 ≡ 0 ∷ []
c_scan =
    filter_agree (λ row. list_all (λ c. not (is_own_conjunct c 1) || c.holds (λ e. row)) (conjuncts_of region_query region_tables))
    (λ row. comparison_holds region_tables (λ e. row) op.Eq (column_operand 1 1) (operand.Int (pos 3)) && true) in_region (range_with_len 0 4)

region_scans : scans_of region_query region_tables ≡ (0 ∷ 1 ∷ 2 ∷ 3 ∷ 4 ∷ []) ∷ (0 ∷ []) ∷ []
region_scans =
    ap (λ (s : List ℕ). s ∷ query_scan region_query region_tables 1 ∷ []) o_scan
    ∙ ap (λ (s : List ℕ). (0 ∷ 1 ∷ 2 ∷ 3 ∷ 4 ∷ []) ∷ s ∷ []) c_scan

region_rounds : after_rounds (edge_of 0 1 1 0 ∷ []) (are_equal_at region_tables) 7 ((0 ∷ 1 ∷ 2 ∷ 3 ∷ 4 ∷ []) ∷ (0 ∷ []) ∷ []) ≡ (0 ∷ []) ∷ (0 ∷ []) ∷ []
region_rounds = refl

pub region_reduced : reduced_of region_query region_tables ≡ (0 ∷ []) ∷ (0 ∷ []) ∷ []
region_reduced =
    reduced_from region_query region_tables (edge_of 0 1 1 0 ∷ []) ((0 ∷ 1 ∷ 2 ∷ 3 ∷ 4 ∷ []) ∷ (0 ∷ []) ∷ []) region_joined region_scans ∙ region_rounds

one_row_each : plan_answer (1 ∷ 1 ∷ 1 ∷ 1 ∷ []) (1 ∷ 1 ∷ []) 1 ≡ Ok (plan_of (0 ∷ 1 ∷ []) (1 ∷ 1 ∷ []) (1 ∷ 1 ∷ []))
unfolding plan_answer best_order
one_row_each = refl

region_sets : set_bounds_over region_query region_tables ((0 ∷ []) ∷ (0 ∷ []) ∷ []) 1 ≡ 1 ∷ 1 ∷ 1 ∷ 1 ∷ []
unfolding entries_of_set
region_sets = rw (equality_two 0 1 1 0 (λ e. absurd (omega (arith, e))), equality_literal (column_operand 1 1) (operand.Int (pos 3)) refl) refl

pub region_plan : planned_reduced region_query region_tables 1 1 ≡ Ok (plan_of (0 ∷ 1 ∷ []) (1 ∷ 1 ∷ []) (1 ∷ 1 ∷ []))
region_plan =
    plan_computed region_query region_tables ((0 ∷ []) ∷ (0 ∷ []) ∷ []) 1 1 (1 ∷ 1 ∷ 1 ∷ 1 ∷ []) (1 ∷ 1 ∷ []) region_reduced region_sets refl ∙ one_row_each

-- ---- the query that joins A, B and D in a chain

abbrev chain : List Edge
chain = edge_of 0 0 1 0 ∷ edge_of 1 1 2 0 ∷ []

chain_joined : equalities_of chain_query ≡ chain
chain_joined = rw (equality_two 0 0 1 0 (λ e. absurd (omega (arith, e))), equality_two 1 1 2 0 (λ e. absurd (omega (arith, e)))) refl

chain_scans : scans_of chain_query chain_tables ≡ (0 ∷ 1 ∷ 2 ∷ []) ∷ (0 ∷ 1 ∷ 2 ∷ []) ∷ (0 ∷ []) ∷ []
chain_scans =
    rw (entries_compare op.Eq (column_operand 0 0) (column_operand 1 0), entries_compare op.Eq (column_operand 1 1) (column_operand 2 0)) refl

chain_rounds : after_rounds chain (are_equal_at chain_tables) 8 ((0 ∷ 1 ∷ 2 ∷ []) ∷ (0 ∷ 1 ∷ 2 ∷ []) ∷ (0 ∷ []) ∷ []) ≡ (0 ∷ []) ∷ (0 ∷ []) ∷ (0 ∷ []) ∷ []
chain_rounds = refl

pub chain_reduced : reduced_of chain_query chain_tables ≡ (0 ∷ []) ∷ (0 ∷ []) ∷ (0 ∷ []) ∷ []
chain_reduced = reduced_from chain_query chain_tables chain ((0 ∷ 1 ∷ 2 ∷ []) ∷ (0 ∷ 1 ∷ 2 ∷ []) ∷ (0 ∷ []) ∷ []) chain_joined chain_scans ∙ chain_rounds

chain_sets : set_bounds_over chain_query chain_tables ((0 ∷ []) ∷ (0 ∷ []) ∷ (0 ∷ []) ∷ []) 1 ≡ 1 ∷ 1 ∷ 1 ∷ 1 ∷ 1 ∷ 1 ∷ 1 ∷ 1 ∷ []
unfolding entries_of_set
chain_sets = rw (equality_two 0 0 1 0 (λ e. absurd (omega (arith, e))), equality_two 1 1 2 0 (λ e. absurd (omega (arith, e)))) refl

chain_chosen : plan_answer (1 ∷ 1 ∷ 1 ∷ 1 ∷ 1 ∷ 1 ∷ 1 ∷ 1 ∷ []) (1 ∷ 1 ∷ 1 ∷ []) 1 ≡ Ok (plan_of (0 ∷ 1 ∷ 2 ∷ []) (1 ∷ 1 ∷ 1 ∷ []) (1 ∷ 1 ∷ 1 ∷ []))
unfolding plan_answer best_order
chain_chosen = refl

pub chain_plan : planned_reduced chain_query chain_tables 1 1 ≡ Ok (plan_of (0 ∷ 1 ∷ 2 ∷ []) (1 ∷ 1 ∷ 1 ∷ []) (1 ∷ 1 ∷ 1 ∷ []))
chain_plan =
    plan_computed chain_query chain_tables ((0 ∷ []) ∷ (0 ∷ []) ∷ (0 ∷ []) ∷ []) 1 1 (1 ∷ 1 ∷ 1 ∷ 1 ∷ 1 ∷ 1 ∷ 1 ∷ 1 ∷ []) (1 ∷ 1 ∷ 1 ∷ []) chain_reduced chain_sets refl
    ∙ chain_chosen

-- ---- the query that joins three tables in a triangle

abbrev three_each : List (List ℕ)
three_each = (0 ∷ 1 ∷ 2 ∷ []) ∷ (0 ∷ 1 ∷ 2 ∷ []) ∷ (0 ∷ 1 ∷ 2 ∷ []) ∷ []

triangle_scans : scans_of triangle three_tables ≡ three_each
triangle_scans =
    rw (
      entries_compare op.Eq (column_operand 0 0) (column_operand 1 0),
      entries_compare op.Eq (column_operand 1 1) (column_operand 2 0),
      entries_compare op.Eq (column_operand 2 1) (column_operand 0 1),
    ) refl

triangle_rounds : after_rounds triangle_equalities (are_equal_at three_tables) 10 three_each ≡ three_each
triangle_rounds = refl

pub triangle_reduced : reduced_of triangle three_tables ≡ three_each
triangle_reduced = reduced_from triangle three_tables triangle_equalities three_each triangle_joined triangle_scans ∙ triangle_rounds

triangle_sets : set_bounds_over triangle three_tables three_each 1 ≡ 1 ∷ 3 ∷ 3 ∷ 5 ∷ 3 ∷ 5 ∷ 5 ∷ 9 ∷ []
unfolding entries_of_set
triangle_sets =
    rw (equality_two 0 0 1 0 (λ e. absurd (omega (arith, e))), equality_two 1 1 2 0 (λ e. absurd (omega (arith, e))), equality_two 2 1 0 1 (λ e. absurd (omega (arith, e)))) refl

triangle_chosen : plan_answer (1 ∷ 3 ∷ 3 ∷ 5 ∷ 3 ∷ 5 ∷ 5 ∷ 9 ∷ []) (3 ∷ 3 ∷ 3 ∷ []) 9 ≡ Ok (plan_of (0 ∷ 1 ∷ 2 ∷ []) (3 ∷ 3 ∷ 3 ∷ []) (3 ∷ 5 ∷ 9 ∷ []))
unfolding plan_answer best_order
triangle_chosen = refl

pub triangle_plan : planned_reduced triangle three_tables 1 9 ≡ Ok (plan_of (0 ∷ 1 ∷ 2 ∷ []) (3 ∷ 3 ∷ 3 ∷ []) (3 ∷ 5 ∷ 9 ∷ []))
triangle_plan =
    plan_computed triangle three_tables three_each 1 9 (1 ∷ 3 ∷ 3 ∷ 5 ∷ 3 ∷ 5 ∷ 5 ∷ 9 ∷ []) (3 ∷ 3 ∷ 3 ∷ []) triangle_reduced triangle_sets refl ∙ triangle_chosen

-- ---- an empty table, and a constant condition that is false

empty_first_joined : equalities_of unjoined_entry_query ≡ edge_of 0 0 1 0 ∷ []
empty_first_joined = rw (equality_two 0 0 1 0 (λ e. absurd (omega (arith, e)))) refl

empty_first_scans : scans_of unjoined_entry_query empty_first_tables ≡ [] ∷ (0 ∷ 1 ∷ []) ∷ (0 ∷ 1 ∷ []) ∷ []
empty_first_scans = rw (entries_compare op.Eq (column_operand 0 0) (column_operand 1 0)) refl

empty_first_rounds : after_rounds (edge_of 0 0 1 0 ∷ []) (are_equal_at empty_first_tables) 5 ([] ∷ (0 ∷ 1 ∷ []) ∷ (0 ∷ 1 ∷ []) ∷ []) ≡ [] ∷ [] ∷ (0 ∷ 1 ∷ []) ∷ []
empty_first_rounds = refl

pub empty_first_reduced : reduced_of unjoined_entry_query empty_first_tables ≡ [] ∷ [] ∷ (0 ∷ 1 ∷ []) ∷ []
empty_first_reduced =
    reduced_from unjoined_entry_query empty_first_tables (edge_of 0 0 1 0 ∷ []) ([] ∷ (0 ∷ 1 ∷ []) ∷ (0 ∷ 1 ∷ []) ∷ []) empty_first_joined empty_first_scans ∙ empty_first_rounds

never_joined : equalities_of never_true_query ≡ edge_of 0 0 1 0 ∷ []
never_joined = rw (equality_two 0 0 1 0 (λ e. absurd (omega (arith, e))), equality_literal (operand.Int (pos 1)) (operand.Int (pos 2)) refl) refl

never_scans : scans_of never_true_query small_tables ≡ (0 ∷ 1 ∷ 2 ∷ 3 ∷ 4 ∷ 5 ∷ []) ∷ (0 ∷ 1 ∷ 2 ∷ 3 ∷ 4 ∷ []) ∷ []
never_scans =
    rw (entries_compare op.Eq (column_operand 0 0) (column_operand 1 0), entries_compare op.Eq (operand.Int (pos 1)) (operand.Int (pos 2))) refl

pub never_reduced : reduced_of never_true_query small_tables ≡ (0 ∷ 1 ∷ 2 ∷ []) ∷ (0 ∷ 1 ∷ []) ∷ []
never_reduced =
    reduced_from never_true_query small_tables (edge_of 0 0 1 0 ∷ []) ((0 ∷ 1 ∷ 2 ∷ 3 ∷ 4 ∷ 5 ∷ []) ∷ (0 ∷ 1 ∷ 2 ∷ 3 ∷ 4 ∷ []) ∷ []) never_joined never_scans
    ∙ pair_rounds
