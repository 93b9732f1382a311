-- The run by counting over reduced scans, proved by computation.
use Rattle.std.proofs.Common.{◌≡◌, ℕ, ◌-◌, ◌==◌, Bool, true, false, not, ◌&&◌, min, nat_le, List, [], ◌∷◌, length, map, is_some, None, Ok, refl, ap, ◌∙◌, arith, inl, inr}
use Rattle.std.proofs.Math.Path.{fun_ext}
use Rattle.std.proofs.lemmas.Bool.{and_from, cases_Bool, or_left}
use Rattle.std.specs.List.{filter, list_all, range_with_len}
use Rattle.std.specs.Prelude.{codes}
use Rattle.berge_tree.specs.Testing.{edge_of}
use Rattle.berge_tree.specs.declared.edges.Edge.{Edge}
use Rattle.degree_sequences.specs.Saturation.{saturated}
use Rattle.entry_sets.specs.Sets.{entries_of_set, set_of}
use Rattle.join_graph.specs.Conjuncts.{column_operand, equalities_of}
use Rattle.join_graph.specs.Kept.{equalities_within, rotated, joins_within, kept_in_order, kept_of, turn_count}
use Rattle.join_graph.proofs.Comparing.{equality_two}
use Rattle.join_steps.specs.Lists.{list_at, list_sizes}
use Rattle.query_bounds.specs.Examples.{two_table_query}
use Rattle.query_grammar.specs.declared.tree.Op.TheVariants as op
use Rattle.query_types.specs.declared.types.Cond.{Compare}
use Rattle.query_types.proofs.CondFacts.{entries_compare}
use Rattle.sql_meaning.specs.Answers.{conjuncts_of}
use Rattle.sql_meaning.specs.Conditions.{comparison_holds, cond_holds}
use Rattle.sql_meaning.specs.Levels.{Conjunct}
use Rattle.sql_meaning.proofs.ConditionFacts.{holds_compare}
use Rattle.tree_bounds.specs.SetBounds.{least_to}
use Rattle.counted_bounds.specs.Bounds.{CountsMade, count_equal, counted_bounds_of_sets}
use Rattle.counted_bounds.specs.Counts.{conjuncts_of_set, count_over, is_of_set}
use Rattle.counted_bounds.specs.Parts.{parts_of, product_over}
use Rattle.counted_factors.specs.ColumnConjuncts.{ColumnConjunct, column_conjunct_of}
use Rattle.counted_factors.specs.Limits.{column_conjuncts_of_set, are_all_counted, are_equalities_counted, are_equalities_tried, are_kept, counts_made, column_equalities_of_set, has_only_kept_equalities, is_one_part, is_own_or_equality, is_within_limits, most_pairs_of_all, taken_below, taken_by_all, taken_by_set}
use Rattle.counted_planning.specs.Bounds.{set_bounds_by_counts}
use Rattle.table_files.specs.Examples.{two_tables}
use Rattle.safebound_words.specs.Answer.{command_of, kind_of_word, parts_from, reading_of}
use Rattle.safebound_words.specs.Commands.{over_query}
use Rattle.safebound_words.specs.Numbers.{number_of}
use Rattle.safebound_words.specs.Table.{over_files}
use Rattle.safebound_words.specs.declared.command.ListSource.TheVariants as sources
use Rattle.safebound_words.specs.declared.command.Shape.TheVariants as shapes
use Rattle.safebound_words.specs.declared.command.QueryTask.TheVariants as query_tasks
use Rattle.prepared_runs.specs.RunOutcome.{Planned}
use Rattle.prepared_runs.specs.Shapes.{answer_of, planned_by}
use Rattle.prepared_runs.specs.Sources.{lists_by, scans_by, sets_by, bounds_and_lists_by}
use Rattle.prepared_runs.specs.Verdict.{command_stage, verdict}
use Rattle.plans.specs.Orders.{tree_of_order}
use Rattle.worked_run.specs.Meaning.{reduced_lists, two_tables_reduced}
use Rattle.worked_run.specs.TwoTables.{counted_words, small_files}
use Rattle.worked_run.proofs.Levels.{T}
use Rattle.worked_run.proofs.Reduced.{equalities_are, reduced_scans_are, plan, plan_made, plan_over, task}
use Rattle.worked_run.proofs.Verdicts.{verdict_is_plan_stage}

-- ---- the words, the lists and the condition

abbrev equality : Edge
equality = edge_of 0 0 1 0

abbrev asked_as : List ℕ → ((ℕ → ℕ) → Bool) → List Conjunct
asked_as named meaning_of_test = record { entries = named; holds = meaning_of_test } ∷ []

abbrev is_equal : (ℕ → ℕ) → Bool
is_equal row_of = comparison_holds T row_of op.Eq (column_operand 0 0) (column_operand 1 0)

conjuncts_found : conjuncts_of two_table_query T ≡ asked_as (0 ∷ 1 ∷ []) is_equal
conjuncts_found =
    ap (λ (named : List ℕ). asked_as named (λ row_of. cond_holds T row_of (Compare op.Eq (column_operand 0 0) (column_operand 1 0))))
    (entries_compare op.Eq (column_operand 0 0) (column_operand 1 0))
    ∙ ap (λ (meaning_of_test : (ℕ → ℕ) → Bool). asked_as (0 ∷ 1 ∷ []) meaning_of_test)
    (fun_ext (λ (row_of : ℕ → ℕ). holds_compare T row_of op.Eq (column_operand 0 0) (column_operand 1 0)))

-- ---- every set is counted with all its conjuncts. The only equality is always kept, so a count with only equalities is never tried

only_equality_is_kept : (p : Edge → Bool) → (length (kept_in_order (rotated 0 (filter p (equality ∷ [])))) == length (filter p (equality ∷ []))) ≡ true
only_equality_is_kept p = elim (cases_Bool (p equality)) [
  | inl t ↦ rw t refl
  | inr n ↦ rw n refl
]

every_set_is_kept : (subset : ℕ) → are_kept two_table_query subset ≡ true
every_set_is_kept subset = ap (λ (es : List Edge). length (kept_of subset 0 es) == length (equalities_within subset es)) equalities_are ∙ only_equality_is_kept (joins_within subset)

only_conjunct_is_equality : (p : ColumnConjunct → Bool) (entries : List ℕ) (a : ColumnConjunct) → a.is_equality ≡ true → list_all (is_own_or_equality entries) (filter p (a ∷ [])) ≡ true
only_conjunct_is_equality p entries a is = elim (cases_Bool (p a)) [
  | inl t ↦ rw (t, is) refl
  | inr n ↦ rw n refl
]

sets_have_only_kept_equalities : (subset : ℕ) → has_only_kept_equalities two_table_query T subset ≡ true
sets_have_only_kept_equalities subset = and_from (are_kept two_table_query subset) (list_all (is_own_or_equality (entries_of_set subset)) (column_conjuncts_of_set two_table_query T subset))
    (every_set_is_kept subset)
    (only_conjunct_is_equality (λ (a : ColumnConjunct). is_of_set (entries_of_set subset) a.conjunct) (entries_of_set subset)
    (column_conjunct_of T (Compare op.Eq (column_operand 0 0) (column_operand 1 0))) (ap is_some (equality_two 0 0 1 0 (λ e. absurd (omega (arith, e))))))

all_counted : (subset before : ℕ) → are_all_counted two_table_query T reduced_lists subset before ≡ true
all_counted subset before = or_left (has_only_kept_equalities two_table_query T subset)
    (is_within_limits T reduced_lists subset (column_conjuncts_of_set two_table_query T subset) && nat_le (taken_by_all two_table_query T reduced_lists subset before) most_pairs_of_all)
    (sets_have_only_kept_equalities subset)

second_count_is_not_tried : (a b c : Bool) → c ≡ true → (a && not b && not c) ≡ false
second_count_is_not_tried true true c is = refl
second_count_is_not_tried true false c is = ap not is
second_count_is_not_tried false b c is = refl

all_of_three_is_false : (a b c : Bool) → a ≡ false → (a && b && c) ≡ false
all_of_three_is_false a b c is = rw is refl

equalities_are_not_counted : (subset before : ℕ) → are_equalities_counted two_table_query T reduced_lists subset before ≡ false
equalities_are_not_counted subset before = all_of_three_is_false (are_equalities_tried two_table_query T reduced_lists subset before)
    (is_within_limits T reduced_lists subset (column_equalities_of_set two_table_query T subset)) (nat_le (taken_by_set two_table_query T reduced_lists subset before) most_pairs_of_all)
    (second_count_is_not_tried (is_one_part two_table_query T subset) (are_all_counted two_table_query T reduced_lists subset before) (are_kept two_table_query subset) (every_set_is_kept subset))

abbrev counted_as : (ℕ → Bool) → (ℕ → Bool) → CountsMade
counted_as all equalities = record { all = all; equalities = equalities }

counted_found : counts_made two_table_query T reduced_lists ≡ counted_as (λ subset. true) (λ subset. false)
counted_found =
    ap (λ (all : ℕ → Bool). counted_as all (λ subset. are_equalities_counted two_table_query T reduced_lists subset (taken_below two_table_query T reduced_lists subset)))
    (fun_ext (λ (subset : ℕ). all_counted subset (taken_below two_table_query T reduced_lists subset)))
    ∙ ap (λ (equalities : ℕ → Bool). counted_as (λ subset. true) equalities)
    (fun_ext (λ (subset : ℕ). equalities_are_not_counted subset (taken_below two_table_query T reduced_lists subset)))

-- ---- the bounds

abbrev part_by : List Conjunct → List Edge → List ℕ → ℕ
part_by conjuncts es part =
    min (count_over (conjuncts_of_set conjuncts part) (list_at reduced_lists) part)
    (least_to (λ turn. count_equal T reduced_lists part (kept_of (set_of part) turn es)) (turn_count (set_of part) es - 1))

abbrev bounds_by : List Conjunct → List Edge → List ℕ
bounds_by conjuncts es =
    map (λ subset. saturated (product_over (part_by conjuncts es) (parts_of conjuncts (entries_of_set subset)))) (range_with_len 0 4)

bounds_found : bounds_by (asked_as (0 ∷ 1 ∷ []) is_equal) (equality ∷ []) ≡ 1 ∷ 3 ∷ 2 ∷ 6 ∷ []
unfolding entries_of_set
bounds_found = refl

set_bounds_are : set_bounds_by_counts two_table_query T reduced_lists ≡ 1 ∷ 3 ∷ 2 ∷ 6 ∷ []
unfolding set_bounds_by_counts
set_bounds_are =
    ap (λ (counted : CountsMade). counted_bounds_of_sets counted two_table_query T reduced_lists) counted_found
    ∙ ap (λ (conjuncts : List Conjunct). bounds_by conjuncts (equalities_of two_table_query)) conjuncts_found
    ∙ ap (λ (es : List Edge). bounds_by (asked_as (0 ∷ 1 ∷ []) is_equal) es) equalities_are
    ∙ bounds_found

-- ---- the verdict

lists_kept : lists_by sources.Counted two_table_query T ≡ reduced_lists
unfolding lists_by
lists_kept = reduced_scans_are

plan_found : planned_by shapes.Order (bounds_and_lists_by sources.Counted two_tables two_table_query T) 1 1000000 ≡ Ok (tree_of_order plan)
unfolding planned_by sets_by scans_by
plan_found =
    ap (λ (lists : List (List ℕ)). answer_of shapes.Order (set_bounds_by_counts two_table_query T lists) (list_sizes two_table_query lists) 1000000) reduced_scans_are
    ∙ plan_over (set_bounds_by_counts two_table_query T reduced_lists) set_bounds_are

asked : command_stage counted_words ≡ Ok (over_query None (codes "schema.sql") (codes "query.sql") (query_tasks.Plan (task sources.Counted)))
unfolding command_of reading_of over_files parts_from kind_of_word number_of
asked = refl

pub counted_verdict : verdict counted_words small_files ≡ Ok (Planned (two_tables_reduced sources.Counted))
counted_verdict = verdict_is_plan_stage counted_words (task sources.Counted) asked ∙ plan_made sources.Counted lists_kept plan_found
