-- The plan with `--keys`, which carries conditions through a key, proved by computation.
use Rattle.std.proofs.Common.{◌≡◌, ℕ, zero, suc, List, [], ◌∷◌, Option, None, Some, Result, Ok, pos, true, refl, ap, ◌∙◌}
use Rattle.std.specs.Fmt.{digits}
use Rattle.std.specs.Prelude.{codes}
use Rattle.std.specs.Str.{chars, is_utf8}
use Rattle.std.proofs.Math.Path.{fun_ext}
use Rattle.csv.specs.Reading.{strip_bom}
use Rattle.csv.proofs.OnLiterals.{csv_on_literals}
use Rattle.csv_tables.specs.Files.{rows_in_records, rows_of_file, rows_under_header}
use Rattle.csv_tables.specs.Rows.{Row}
use Rattle.filtered_lists.proofs.Parts.{conjunction_of_compare}
use Rattle.filtered_lists.specs.Lists.{count_answers}
use Rattle.gathered_stats.specs.Statistics.{statistics_of}
use Rattle.join_graph.specs.Conjuncts.{column_operand, equalities_of}
use Rattle.key_bounds.proofs.SmallBounds.{manager_keyed}
use Rattle.key_bounds.specs.Bounds.{bounds_by_keys}
use Rattle.key_bounds.specs.Examples.{manager_query, worker_schema, worker_tables, workers}
use Rattle.order_search.specs.declared.refusal.PlanError.{PlanError}
use Rattle.outcomes.specs.Errors.{plan_refusal, query_refusal, schema_refusal, table_refusal}
use Rattle.outcomes.specs.Reads.{◌>>=◌, mapped, with_refusal}
use Rattle.outcomes.specs.declared.refusal.Refusal.{Refusal}
use Rattle.plan_answers.specs.BestOrder.{best_order}
use Rattle.plan_answers.specs.PlanAnswer.{plan_answer}
use Rattle.planning.specs.Bounds.{scan_bounds_of}
use Rattle.plans.specs.Examples.{plan_of}
use Rattle.plans.specs.declared.left_deep.Plan.{Plan}
use Rattle.query_bounds.specs.Bounds.{scan_row_bound}
use Rattle.query_grammar.specs.declared.tree.Op.TheVariants as op
use Rattle.query_types.proofs.CondFacts.{entries_compare}
use Rattle.query_types.specs.declared.types.Operand.TheVariants as operand
use Rattle.query_types.specs.declared.types.Query.{Query}
use Rattle.schema_types.specs.declared.types.Schema.{Schema}
use Rattle.set_bounds.specs.AllSets.{bounds_in_sets}
use Rattle.sql_meaning.specs.Tables.{Tables}
use Rattle.table_files.specs.EntryTables.{tables_in}
use Rattle.table_files.specs.Stage.{tables_stage}
use Rattle.table_files.specs.TableFile.{file_rows}
use Rattle.table_stats.specs.Statistics.{entry_counts}
use Rattle.safebound_words.specs.Answer.{command_of, kind_of_word, parts_from, reading_of}
use Rattle.safebound_words.specs.Commands.{over_query}
use Rattle.safebound_words.specs.Numbers.{number_of}
use Rattle.safebound_words.specs.Table.{over_files}
use Rattle.safebound_words.specs.declared.command.SchemaTask.TheVariants as schema_tasks
use Rattle.safebound_words.specs.declared.command.Command.{Command}
use Rattle.safebound_words.specs.declared.command.ListSource.TheVariants as sources
use Rattle.safebound_words.specs.declared.command.OutText.TheVariants as out_text
use Rattle.safebound_words.specs.declared.command.PlanWork.{PlanWork}
use Rattle.safebound_words.specs.declared.command.Shape.TheVariants as shapes
use Rattle.safebound_words.specs.declared.command.QueryTask.TheVariants as query_tasks
use Rattle.prepared_runs.specs.AcceptedQuery.{AcceptedQuery}
use Rattle.prepared_runs.specs.Limits.{within_limit}
use Rattle.prepared_runs.specs.RunOutcome.{Planned}
use Rattle.prepared_runs.specs.Shapes.{answer_of, planned_by}
use Rattle.prepared_runs.specs.Sources.{sets_by, scans_by, bounds_and_lists_by}
use Rattle.prepared_runs.specs.Verdict.{schema_task_run, command_run, command_stage, plan_stage, query_stage, accepted_query, schema_stage, verdict, query_task_run}
use Rattle.plans.specs.Orders.{tree_of_order}
use Rattle.plans.specs.declared.bushy.BushyPlan.{BushyPlan}
use Rattle.tree_rows.specs.Memory.{tree_bytes}
use Rattle.safebound_laws.specs.Printed.{both_texts}
use Rattle.worked_run.specs.OneTable.{keyed_words, workers_files, workers_query, workers_schema, workers_text}
use Rattle.worked_run.proofs.Queries.{workers_query_read}
use Rattle.worked_run.proofs.Schemas.{workers_read}

abbrev task : PlanWork
task = record { terms = record { budget = 1000000; shape = shapes.Order; memory = None }; accuracy = 1; source = sources.Keyed; out = out_text.Nothing }

abbrev command : Command
command = over_query None (codes "schema.sql") (codes "query.sql") (query_tasks.Plan task)

-- ---- the words and the files are read

asked : command_stage keyed_words ≡ Ok command
unfolding command_of reading_of over_files parts_from kind_of_word number_of
asked = refl

schema_found : schema_stage (codes "schema.sql") workers_files ≡ Ok worker_schema
unfolding schema_stage workers_schema
schema_found = ap (with_refusal schema_refusal) workers_read

query_found : query_stage (codes "query.sql") worker_schema workers_files ≡ Ok manager_query
unfolding query_stage workers_query
query_found = ap (with_refusal query_refusal) workers_query_read

abbrev rows : List Row
rows = worker_tables 0

rows_read : rows_of_file workers workers_text ≡ Ok rows
unfolding csv_on_literals strip_bom rows_of_file rows_in_records rows_under_header chars is_utf8 lib.Utf8.encode workers_text
rows_read = refl

rows_found : file_rows 0 workers workers_files ≡ Ok rows
unfolding file_rows workers_text
rows_found = ap (with_refusal (table_refusal 0)) rows_read

tables_found : tables_stage worker_schema manager_query.from workers_files ≡ Ok (rows ∷ rows ∷ [])
unfolding tables_stage
tables_found = rw (rows_found) refl

-- both FROM entries have the rows of the only table
one_table : (entry : ℕ) → tables_in (rows ∷ rows ∷ []) entry ≡ worker_tables entry
one_table zero = refl
one_table (suc zero) = refl
one_table (suc (suc n)) = refl

-- ---- the plan

boss_scan : scan_row_bound manager_query (statistics_of worker_tables 1) 1 ≡ 1
boss_scan = rw (
  entries_compare op.Eq (column_operand 0 1) (column_operand 1 0),
  entries_compare op.Eq (column_operand 1 2) (operand.Int (pos 3)),
  conjunction_of_compare (count_answers (entry_counts worker_tables 1)) op.Eq (column_operand 1 2) (operand.Int (pos 3)) true,
) refl

worker_scan : scan_row_bound manager_query (statistics_of worker_tables 1) 0 ≡ 5
worker_scan = rw (
  entries_compare op.Eq (column_operand 0 1) (column_operand 1 0),
  entries_compare op.Eq (column_operand 1 2) (operand.Int (pos 3)),
) refl

scan_bounds_are : scan_bounds_of manager_query worker_tables 1 ≡ 5 ∷ 1 ∷ []
scan_bounds_are = ap (λ (n : ℕ). n ∷ scan_row_bound manager_query (statistics_of worker_tables 1) 1 ∷ []) worker_scan ∙ ap (λ (n : ℕ). 5 ∷ n ∷ []) boss_scan

best_order_is : plan_answer (1 ∷ 5 ∷ 1 ∷ 2 ∷ []) (5 ∷ 1 ∷ []) 1000000 ≡ Ok (plan_of (1 ∷ 0 ∷ []) (5 ∷ 1 ∷ []) (1 ∷ 2 ∷ []))
unfolding plan_answer best_order
best_order_is = refl

abbrev as_order : Result Plan PlanError → Result BushyPlan PlanError
as_order answer = mapped (λ plan. tree_of_order plan) answer

abbrev plan : BushyPlan
plan = tree_of_order (plan_of (1 ∷ 0 ∷ []) (5 ∷ 1 ∷ []) (1 ∷ 2 ∷ []))

plan_found : planned_by shapes.Order (bounds_and_lists_by sources.Keyed worker_schema manager_query (tables_in (rows ∷ rows ∷ []))) 1 1000000 ≡ Ok plan
unfolding planned_by sets_by scans_by
plan_found =
    ap (λ (ts : Tables). answer_of shapes.Order (bounds_in_sets (bounds_by_keys worker_schema manager_query ts 1) (equalities_of manager_query) 2) (scan_bounds_of manager_query ts 1) 1000000)
    (fun_ext one_table)
    ∙ ap (λ (bounds : List ℕ). answer_of shapes.Order bounds (scan_bounds_of manager_query worker_tables 1) 1000000) manager_keyed
    ∙ ap (λ (bounds : List ℕ). answer_of shapes.Order (1 ∷ 5 ∷ 1 ∷ 2 ∷ []) bounds 1000000) scan_bounds_are
    ∙ ap as_order best_order_is

abbrev run : AcceptedQuery
run = accepted_query task manager_query (rows ∷ rows ∷ []) plan

plan_made : plan_stage task worker_schema manager_query (rows ∷ rows ∷ []) ≡ Ok (Planned run)
unfolding plan_stage
plan_made =
    ap (λ (answer : Result BushyPlan PlanError). with_refusal plan_refusal answer
    >>= λ plan. within_limit None (tree_bytes plan) (Planned (accepted_query task manager_query (rows ∷ rows ∷ []) plan))) plan_found

-- ---- the verdict

of_files : command_run command workers_files ≡ Ok (Planned run)
unfolding command_run
of_files =
    ap (λ (schema : Result Schema Refusal). schema >>= λ s. schema_task_run (schema_tasks.Query (codes "query.sql") (query_tasks.Plan task)) s workers_files) schema_found
    ∙ ap (λ (query : Result Query Refusal). query >>= λ q. query_task_run (query_tasks.Plan task) worker_schema q workers_files) query_found
    ∙ ap (λ (found : Result (List (List Row)) Refusal). found >>= plan_stage task worker_schema manager_query) tables_found
    ∙ plan_made

keyed_verdict : verdict keyed_words workers_files ≡ Ok (Planned run)
unfolding verdict
keyed_verdict = ap (λ (a : Result Command Refusal). a >>= λ a. command_run a workers_files) asked ∙ of_files

texts : both_texts (Planned run) ≡ (Some (codes "scan E 5\nscan M 1\nlevel 1 M 1\nlevel 2 E 2\n"), None)
unfolding digits
texts = refl

pub keyed_printed : mapped both_texts (verdict keyed_words workers_files) ≡ Ok (Some (codes "scan E 5\nscan M 1\nlevel 1 M 1\nlevel 2 E 2\n"), None)
keyed_printed = ap (mapped both_texts) keyed_verdict ∙ ap (λ (t : Option (List ℕ) × Option (List ℕ)). Ok t) texts
