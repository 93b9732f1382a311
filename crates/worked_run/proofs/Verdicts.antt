-- The verdict on the words and the small files, stage by stage.
use Rattle.std.proofs.Common.{◌≡◌, ℕ, List, Option, None, Some, Result, Ok, Err, refl, ap, ◌∙◌}
use Rattle.std.specs.Prelude.{codes}
use Rattle.csv_tables.specs.Rows.{Row}
use Rattle.order_search.specs.declared.refusal.PlanError.{PlanError}
use Rattle.outcomes.specs.Errors.{plan_refusal, query_refusal, schema_refusal, table_refusal}
use Rattle.outcomes.specs.Reads.{◌>>=◌, with_refusal}
use Rattle.outcomes.specs.declared.refusal.Refusal.{Refusal}
use Rattle.outcomes.specs.declared.refusal.Refusal.TheVariants as refusal
use Rattle.query_bounds.specs.Examples.{two_table_query}
use Rattle.query_types.specs.declared.types.Query.{Query}
use Rattle.schema_types.specs.declared.types.Schema.{Schema}
use Rattle.planning.specs.Examples.{r_column, s_column}
use Rattle.safebound_words.specs.Answer.{command_of, kind_of_word, parts_from, reading_of}
use Rattle.safebound_words.specs.Numbers.{number_of}
use Rattle.safebound_words.specs.Table.{over_files}
use Rattle.table_files.specs.Examples.{numbers_table, two_tables}
use Rattle.table_files.specs.EntryTables.{tables_in}
use Rattle.table_files.specs.Stage.{tables_stage}
use Rattle.table_files.specs.TableFile.{file_rows}
use Rattle.prepared_runs.specs.AcceptedQuery.{AcceptedQuery}
use Rattle.safebound_words.specs.Commands.{over_query}
use Rattle.safebound_words.specs.declared.command.Command.{Command}
use Rattle.safebound_words.specs.declared.command.SchemaTask.TheVariants as schema_tasks
use Rattle.safebound_words.specs.declared.command.QueryTask.TheVariants as query_tasks
use Rattle.prepared_runs.specs.Limits.{within_limit}
use Rattle.prepared_runs.specs.RunOutcome.{Planned}
use Rattle.prepared_runs.specs.Verdict.{schema_task_run, command_run, command_stage, plan_asked, plan_stage, query_stage, accepted_query, schema_stage, verdict, query_task_run}
use Rattle.plans.specs.declared.bushy.BushyPlan.{BushyPlan}
use Rattle.tree_rows.specs.Memory.{tree_bytes}
use Rattle.safebound_words.specs.declared.command.ListSource.TheVariants as sources
use Rattle.safebound_words.specs.declared.command.OutText.{OutText}
use Rattle.safebound_words.specs.declared.command.OutText.TheVariants as out_text
use Rattle.safebound_words.specs.declared.command.PlanWork.{PlanWork}
use Rattle.safebound_words.specs.declared.command.Shape.{Shape}
use Rattle.safebound_words.specs.declared.command.Shape.TheVariants as shapes
use Rattle.worked_run.specs.Meaning.{rows_of, small_lists, small_rows, two_tables_run, two_tables_tree}
use Rattle.worked_run.specs.TwoTables.{audit_words, limited_words, small_memory_words, query_text, r_text, run_words, s_text, schema_text, small_files, small_budget_words, tree_words}
use Rattle.worked_run.proofs.Levels.{lists_found}
use Rattle.worked_run.proofs.Plans.{plan_found, plan_refused, tree_found}
use Rattle.worked_run.proofs.Queries.{query_read}
use Rattle.worked_run.proofs.Rows.{r_read, s_read}
use Rattle.worked_run.proofs.Schemas.{schema_read}

-- the work of a plan as an order or a tree, with this text for `out`, a budget, and a limit of memory if there is one
abbrev task : OutText → Shape → ℕ → Option ℕ → PlanWork
task out shape budget memory = record { terms = record { budget = budget; shape = shape; memory = memory }; accuracy = 1; source = sources.Columns; out = out }

abbrev ask : OutText → Shape → ℕ → Option ℕ → Command
ask out shape budget memory = over_query None (codes "schema.sql") (codes "query.sql") (query_tasks.Plan (task out shape budget memory))

-- ---- the words are read

run_is_asked : command_stage run_words ≡ Ok (ask out_text.Rows shapes.Order 1000000 None)
unfolding command_of reading_of over_files parts_from kind_of_word number_of
run_is_asked = refl

audit_asked : command_stage audit_words ≡ Ok (ask out_text.Audit shapes.Order 1000000 None)
unfolding command_of reading_of over_files parts_from kind_of_word number_of
audit_asked = refl

tree_asked : command_stage tree_words ≡ Ok (ask out_text.Audit shapes.Tree 1000000 None)
unfolding command_of reading_of over_files parts_from kind_of_word number_of
tree_asked = refl

small_budget_asked : command_stage small_budget_words ≡ Ok (ask out_text.Rows shapes.Order 11 None)
unfolding command_of reading_of over_files parts_from kind_of_word number_of
small_budget_asked = refl

limited_asked : command_stage limited_words ≡ Ok (ask out_text.Rows shapes.Order 1000000 (Some 531))
unfolding command_of reading_of over_files parts_from kind_of_word number_of
limited_asked = refl

small_memory_asked : command_stage small_memory_words ≡ Ok (ask out_text.Rows shapes.Order 1000000 (Some 530))
unfolding command_of reading_of over_files parts_from kind_of_word number_of
small_memory_asked = refl

-- ---- the files are read

pub schema_found : schema_stage (codes "schema.sql") small_files ≡ Ok two_tables
unfolding schema_stage schema_text
schema_found = ap (with_refusal schema_refusal) schema_read

pub query_found : query_stage (codes "query.sql") two_tables small_files ≡ Ok two_table_query
unfolding query_stage query_text
query_found = ap (with_refusal query_refusal) query_read

r_found : file_rows 0 (numbers_table (codes "R")) small_files ≡ Ok (rows_of r_column)
unfolding file_rows r_text
r_found = ap (with_refusal (table_refusal 0)) r_read

s_found : file_rows 1 (numbers_table (codes "S")) small_files ≡ Ok (rows_of s_column)
unfolding file_rows s_text
s_found = ap (with_refusal (table_refusal 1)) s_read

pub tables_found : tables_stage two_tables two_table_query.from small_files ≡ Ok small_rows
unfolding tables_stage
tables_found = rw (r_found, s_found) refl

-- ---- the plan is made

-- the run of a plan over the lists that were found
run_of_plan : (out : OutText) (shape : Shape) (memory : Option ℕ) (plan : BushyPlan) → accepted_query (task out shape 1000000 memory) two_table_query small_rows plan ≡ record {
  query = two_table_query;
  rows = small_rows;
  shape = shape;
  plan = plan;
  source = sources.Columns;
  lists = small_lists;
  memory = memory;
  out = out;
}
run_of_plan out shape memory plan = ap (λ (lists : List (List ℕ)). record {
  query = two_table_query;
  rows = small_rows;
  shape = shape;
  plan = plan;
  source = sources.Columns;
  lists = lists;
  memory = memory;
  out = out;
}) lists_found

made : (out : OutText) (shape : Shape) (memory : Option ℕ) (plan : BushyPlan) → plan_asked (task out shape 1000000 memory) two_tables two_table_query (tables_in small_rows) ≡ Ok plan
    → plan_stage (task out shape 1000000 memory) two_tables two_table_query small_rows
    ≡ within_limit memory (tree_bytes plan) (Planned (accepted_query (task out shape 1000000 memory) two_table_query small_rows plan))
unfolding plan_stage
made out shape memory plan is =
    ap (λ (answer : Result BushyPlan PlanError). with_refusal plan_refusal answer
    >>= λ plan. within_limit memory (tree_bytes plan) (Planned (accepted_query (task out shape 1000000 memory) two_table_query small_rows plan))) is

-- the plan as an order, tested against the limit of memory if there is one
plan_within : (out : OutText) (memory : Option ℕ)
    → plan_stage (task out shapes.Order 1000000 memory) two_tables two_table_query small_rows ≡ within_limit memory 531 (Planned (two_tables_run out memory))
plan_within out memory =
    let plan : BushyPlan = (two_tables_run out memory).plan in
    made out shapes.Order memory plan plan_found ∙ ap (λ (run : AcceptedQuery). within_limit memory 531 (Planned run)) (run_of_plan out shapes.Order memory plan)

plan_made : (out : OutText) → plan_stage (task out shapes.Order 1000000 None) two_tables two_table_query small_rows ≡ Ok (Planned (two_tables_run out None))
plan_made out = plan_within out None

tree_made : (out : OutText) → plan_stage (task out shapes.Tree 1000000 None) two_tables two_table_query small_rows ≡ Ok (Planned (two_tables_tree out None))
tree_made out =
    let plan : BushyPlan = (two_tables_tree out None).plan in
    made out shapes.Tree None plan tree_found ∙ ap (λ (run : AcceptedQuery). Ok (Planned run)) (run_of_plan out shapes.Tree None plan)

plan_too_dear : plan_stage (task out_text.Rows shapes.Order 11 None) two_tables two_table_query small_rows ≡ Err (refusal.Budget 12)
unfolding plan_stage
plan_too_dear = ap (λ (plan : Result BushyPlan PlanError). with_refusal plan_refusal plan
    >>= λ plan. Ok (Planned (accepted_query (task out_text.Rows shapes.Order 11 None) two_table_query small_rows plan))) plan_refused

-- ---- the stages are put together

of_files : (work : PlanWork) → command_run (over_query None (codes "schema.sql") (codes "query.sql") (query_tasks.Plan work)) small_files ≡ plan_stage work two_tables two_table_query small_rows
unfolding command_run
of_files work =
    ap (λ (schema : Result Schema Refusal). schema >>= λ s. schema_task_run (schema_tasks.Query (codes "query.sql") (query_tasks.Plan work)) s small_files) schema_found
    ∙ ap (λ (query : Result Query Refusal). query >>= λ q. query_task_run (query_tasks.Plan work) two_tables q small_files) query_found
    ∙ ap (λ (rows : Result (List (List Row)) Refusal). rows >>= plan_stage work two_tables two_table_query) tables_found

-- if the words are read as a command, their verdict is the run of this command
pub verdict_is_command_run : (words : List (List ℕ)) (command : Command) → command_stage words ≡ Ok command → verdict words small_files ≡ command_run command small_files
unfolding verdict
verdict_is_command_run words command asked = ap (λ (a : Result Command Refusal). a >>= λ a. command_run a small_files) asked

pub verdict_is_plan_stage : (words : List (List ℕ)) (work : PlanWork) → command_stage words ≡ Ok (over_query None (codes "schema.sql") (codes "query.sql") (query_tasks.Plan work))
    → verdict words small_files ≡ plan_stage work two_tables two_table_query small_rows
verdict_is_plan_stage words work asked = verdict_is_command_run words (over_query None (codes "schema.sql") (codes "query.sql") (query_tasks.Plan work)) asked ∙ of_files work

-- the verdict on a plan from the tables, with which a plan from a statistics file is compared
pub plan_of_tables_verdict : command_run (ask out_text.Nothing shapes.Order 1000000 None) small_files ≡ Ok (Planned (two_tables_run out_text.Nothing None))
plan_of_tables_verdict = of_files (task out_text.Nothing shapes.Order 1000000 None) ∙ plan_made out_text.Nothing

pub run_verdict : verdict run_words small_files ≡ Ok (Planned (two_tables_run out_text.Rows None))
run_verdict = verdict_is_plan_stage run_words (task out_text.Rows shapes.Order 1000000 None) run_is_asked ∙ plan_made out_text.Rows

pub audit_verdict : verdict audit_words small_files ≡ Ok (Planned (two_tables_run out_text.Audit None))
audit_verdict = verdict_is_plan_stage audit_words (task out_text.Audit shapes.Order 1000000 None) audit_asked ∙ plan_made out_text.Audit

pub tree_verdict : verdict tree_words small_files ≡ Ok (Planned (two_tables_tree out_text.Audit None))
tree_verdict = verdict_is_plan_stage tree_words (task out_text.Audit shapes.Tree 1000000 None) tree_asked ∙ tree_made out_text.Audit

pub small_budget_verdict : verdict small_budget_words small_files ≡ Err (refusal.Budget 12)
small_budget_verdict = verdict_is_plan_stage small_budget_words (task out_text.Rows shapes.Order 11 None) small_budget_asked ∙ plan_too_dear

pub limited_verdict : verdict limited_words small_files ≡ Ok (Planned (two_tables_run out_text.Rows (Some 531)))
limited_verdict = verdict_is_plan_stage limited_words (task out_text.Rows shapes.Order 1000000 (Some 531)) limited_asked ∙ plan_within out_text.Rows (Some 531)

pub small_memory_verdict : verdict small_memory_words small_files ≡ Err (refusal.MemoryLimit 531)
small_memory_verdict = verdict_is_plan_stage small_memory_words (task out_text.Rows shapes.Order 1000000 (Some 530)) small_memory_asked ∙ plan_within out_text.Rows (Some 530)
