-- The run over reduced scans, proved by computation. The run by counting uses those lemmas that don't depend on how the bounds are made.
use Rattle.std.proofs.Common.{◌≡◌, ℕ, ◌+◌, List, [], ◌∷◌, None, Some, Result, Ok, map, refl, ap, ◌∙◌, arith}
use Rattle.std.specs.Fmt.{digits}
use Rattle.std.specs.Prelude.{codes}
use Rattle.std.proofs.lemmas.List.Elements.{filter_agree}
use Rattle.berge_tree.specs.Testing.{edge_of}
use Rattle.berge_tree.specs.declared.edges.Edge.{Edge}
use Rattle.entry_sets.specs.Sets.{entries_of_set}
use Rattle.join_graph.specs.Conjuncts.{equalities_of}
use Rattle.join_graph.proofs.Comparing.{equality_two}
use Rattle.join_steps.specs.Lists.{list_at, list_levels, list_sizes}
use Rattle.level_bounds.specs.Keys.{are_equal_at}
use Rattle.order_search.specs.declared.refusal.PlanError.{PlanError}
use Rattle.outcomes.specs.Errors.{plan_refusal}
use Rattle.outcomes.specs.Reads.{◌>>=◌, mapped, with_refusal}
use Rattle.plan_answers.specs.BestOrder.{best_order}
use Rattle.plan_answers.specs.PlanAnswer.{plan_answer}
use Rattle.planning.specs.ListedBounds.{entry_bounds_over}
use Rattle.plans.specs.Examples.{plan_of}
use Rattle.plans.specs.declared.left_deep.Plan.{Plan}
use Rattle.printed_texts.specs.Texts.{rows_lines}
use Rattle.query_bounds.specs.Examples.{two_table_query}
use Rattle.reduced_scans.specs.Rounds.{after_rounds, reduced_of, rows_in_all}
use Rattle.set_bounds.specs.AllSets.{bounds_in_sets, in_every_set}
use Rattle.sql_meaning.specs.Answers.{conjuncts_of, selected}
use Rattle.sql_meaning.specs.Choices.{choices}
use Rattle.sql_meaning.specs.Levels.{all_hold, row_in}
use Rattle.table_files.specs.Examples.{two_tables}
use Rattle.safebound_words.specs.Answer.{command_of, kind_of_word, parts_from, reading_of}
use Rattle.safebound_words.specs.Commands.{over_query}
use Rattle.safebound_words.specs.Numbers.{number_of}
use Rattle.safebound_words.specs.Table.{over_files}
use Rattle.safebound_words.specs.declared.command.ListSource.{ListSource}
use Rattle.safebound_words.specs.declared.command.ListSource.TheVariants as sources
use Rattle.safebound_words.specs.declared.command.OutText.TheVariants as out_text
use Rattle.safebound_words.specs.declared.command.PlanWork.{PlanWork}
use Rattle.safebound_words.specs.declared.command.Shape.TheVariants as shapes
use Rattle.safebound_words.specs.declared.command.QueryTask.TheVariants as query_tasks
use Rattle.prepared_runs.specs.Limits.{within_limit}
use Rattle.prepared_runs.specs.RunOutcome.{Planned}
use Rattle.prepared_runs.specs.Shapes.{answer_of, planned_by}
use Rattle.prepared_runs.specs.Sources.{sets_by, lists_by, scans_by, bounds_and_lists_by}
use Rattle.prepared_runs.specs.Verdict.{command_stage, plan_stage, accepted_query, verdict}
use Rattle.plans.specs.Orders.{tree_of_order}
use Rattle.plans.specs.declared.bushy.BushyPlan.{BushyPlan}
use Rattle.tree_rows.specs.Memory.{tree_bytes}
use Rattle.safebound_top.specs.Texts.{out_text_of, plan_text}
use Rattle.worked_run.specs.Meaning.{reduced_lists, small_lists, small_rows, two_tables_reduced}
use Rattle.worked_run.specs.TwoTables.{reduced_words, small_files}
use Rattle.worked_run.proofs.Levels.{T, holds_by_conjunct, conjunct_holds, scans_found}
use Rattle.worked_run.proofs.Verdicts.{verdict_is_plan_stage}

abbrev pub task : ListSource → PlanWork
task source = record { terms = record { budget = 1000000; shape = shapes.Order; memory = None }; accuracy = 1; source = source; out = out_text.Rows }

-- ---- the rows that remain after semi-joins

pub equalities_are : equalities_of two_table_query ≡ edge_of 0 0 1 0 ∷ []
equalities_are = rw (equality_two 0 0 1 0 (λ e. absurd (omega (arith, e)))) refl

pub reduced_scans_are : reduced_of two_table_query T ≡ reduced_lists
unfolding reduced_of
reduced_scans_are =
    ap (λ (lists : List (List ℕ)). after_rounds (equalities_of two_table_query) (are_equal_at T) (rows_in_all lists + 1) lists) scans_found
    ∙ ap (λ (es : List Edge). after_rounds es (are_equal_at T) 12 small_lists) equalities_are

lists_kept : lists_by sources.Reduced two_table_query T ≡ reduced_lists
unfolding lists_by
lists_kept = reduced_scans_are

-- ---- the plan

set_bounds_are : bounds_in_sets (in_every_set (entry_bounds_over T reduced_lists 1)) (equalities_of two_table_query) 2 ≡ 1 ∷ 3 ∷ 2 ∷ 6 ∷ []
unfolding entries_of_set
set_bounds_are = rw equalities_are refl

abbrev pub plan : Plan
plan = plan_of (1 ∷ 0 ∷ []) (3 ∷ 2 ∷ []) (2 ∷ 6 ∷ [])

best_order_is : plan_answer (1 ∷ 3 ∷ 2 ∷ 6 ∷ []) (3 ∷ 2 ∷ []) 1000000 ≡ Ok plan
unfolding plan_answer best_order
best_order_is = refl

abbrev as_order : Result Plan PlanError → Result BushyPlan PlanError
as_order answer = mapped (λ plan. tree_of_order plan) answer

-- the plan from these bounds of the sets, over the rows that remain after semi-joins
pub plan_over : (found : List ℕ) → found ≡ 1 ∷ 3 ∷ 2 ∷ 6 ∷ [] → answer_of shapes.Order found (list_sizes two_table_query reduced_lists) 1000000 ≡ Ok (tree_of_order plan)
plan_over found are = ap (λ (bounds : List ℕ). answer_of shapes.Order bounds (3 ∷ 2 ∷ []) 1000000) are ∙ ap as_order best_order_is

plan_found : planned_by shapes.Order (bounds_and_lists_by sources.Reduced two_tables two_table_query T) 1 1000000 ≡ Ok (tree_of_order plan)
unfolding planned_by sets_by scans_by
plan_found =
    ap (λ (lists : List (List ℕ)). answer_of shapes.Order (bounds_in_sets (in_every_set (entry_bounds_over T lists 1)) (equalities_of two_table_query) 2) (list_sizes two_table_query lists) 1000000) reduced_scans_are
    ∙ plan_over (bounds_in_sets (in_every_set (entry_bounds_over T reduced_lists 1)) (equalities_of two_table_query) 2) set_bounds_are

with_lists : (source : ListSource) → lists_by source two_table_query T ≡ reduced_lists
    → accepted_query (task source) two_table_query small_rows (tree_of_order plan) ≡ two_tables_reduced source
with_lists source is = ap (λ (lists : List (List ℕ)). record {
  query = two_table_query;
  rows = small_rows;
  shape = shapes.Order;
  plan = tree_of_order plan;
  source = source;
  lists = lists;
  memory = None;
  out = out_text.Rows;
}) is

pub plan_made : (source : ListSource) → lists_by source two_table_query T ≡ reduced_lists
    → planned_by shapes.Order (bounds_and_lists_by source two_tables two_table_query T) 1 1000000 ≡ Ok (tree_of_order plan)
    → plan_stage (task source) two_tables two_table_query small_rows ≡ Ok (Planned (two_tables_reduced source))
unfolding plan_stage
plan_made source lists found =
    ap (λ (answer : Result BushyPlan PlanError). with_refusal plan_refusal answer
    >>= λ plan. within_limit None (tree_bytes plan) (Planned (accepted_query (task source) two_table_query small_rows plan))) found
    ∙ ap (λ run. Ok (Planned run)) (with_lists source lists)

-- ---- the verdict

asked : command_stage reduced_words ≡ Ok (over_query None (codes "schema.sql") (codes "query.sql") (query_tasks.Plan (task sources.Reduced)))
unfolding command_of reading_of over_files parts_from kind_of_word number_of
asked = refl

pub reduced_verdict : verdict reduced_words small_files ≡ Ok (Planned (two_tables_reduced sources.Reduced))
reduced_verdict = verdict_is_plan_stage reduced_words (task sources.Reduced) asked ∙ plan_made sources.Reduced lists_kept plan_found

-- ---- the texts

pub reduced_notes : (source : ListSource) → plan_text (two_tables_reduced source) ≡ codes "scan R 3\nscan S 2\nlevel 1 S 2\nlevel 2 R 6\n"
unfolding digits
reduced_notes source = refl

second_level : list_levels two_table_query T reduced_lists (1 ∷ 0 ∷ []) 2
    ≡ (0 ∷ 0 ∷ []) ∷ (0 ∷ 1 ∷ []) ∷ (0 ∷ 2 ∷ []) ∷ (1 ∷ 0 ∷ []) ∷ (1 ∷ 1 ∷ []) ∷ (1 ∷ 2 ∷ []) ∷ []
second_level = filter_agree (λ choice. all_hold (conjuncts_of two_table_query T) (1 ∷ 0 ∷ []) (row_in (1 ∷ 0 ∷ []) choice))
    (λ choice. conjunct_holds (1 ∷ 0 ∷ []) (row_in (1 ∷ 0 ∷ []) choice))
    (λ choice. holds_by_conjunct (1 ∷ 0 ∷ []) (row_in (1 ∷ 0 ∷ []) choice)) (choices (map (list_at reduced_lists) (1 ∷ 0 ∷ [])))

pub reduced_printed : (source : ListSource) → out_text_of (two_tables_reduced source) ≡ Some (codes "X\r\n1\r\n1\r\n1\r\n1\r\n1\r\n1\r\n")
unfolding digits
reduced_printed source = ap (λ (choices : List (List ℕ)). Some (rows_lines two_table_query.select (map (λ choice. selected two_table_query T (row_in (1 ∷ 0 ∷ []) choice)) choices))) second_level
