-- The verdict: the result that the words of the command line and the files determine. It is computed in stages: the words, the schema, the query, the
-- tables or the statistics file, and the plan. For `append` the stages after the schema are the statistics file and the new rows of a table that this
-- file has.
use Rattle.std.specs.Prelude.{ℕ, ◌≡◌, ◌⊎◌, List, Option, None, Some, Result, Ok, Err, IsOkAnd}
use Rattle.limits.specs.Profile.{most_text}
use Rattle.base_io.specs.Files.{Files}
use Rattle.text_answers.specs.SchemaTexts.{schema_answer}
use Rattle.schema_types.specs.declared.types.Schema.{Schema}
use Rattle.csv_tables.specs.Rows.{Row}
use Rattle.text_answers.specs.QueryTexts.{query_answer}
use Rattle.query_types.specs.declared.types.Query.{Query}
use Rattle.sql_meaning.specs.Tables.{Tables}
use Rattle.order_search.specs.declared.refusal.PlanError.{PlanError}
use Rattle.outcomes.specs.Errors.{query_refusal, schema_refusal}
use Rattle.outcomes.specs.Reads.{◌>>=◌, with_refusal}
use Rattle.outcomes.specs.declared.names.FileId.{FileId}
use Rattle.outcomes.specs.declared.names.FileId.TheVariants as file
use Rattle.outcomes.specs.declared.refusal.Refusal.{Refusal}
use Rattle.outcomes.specs.declared.refusal.Refusal.TheVariants as refusal
use Rattle.table_files.specs.EntryTables.{tables_in}
use Rattle.table_files.specs.Stage.{tables_of_query, tables_stage}
use Rattle.table_files.specs.Stage.{IsReached as IsTableReached}
use Rattle.table_files.specs.TableFile.{read}
use Rattle.prepared_runs.specs.AcceptedQuery.{AcceptedQuery}
use Rattle.prepared_runs.specs.Appending.{append_run, section_read}
use Rattle.safebound_words.specs.Answer.{command_of}
use Rattle.safebound_words.specs.declared.command.SchemaTask.{SchemaTask}
use Rattle.safebound_words.specs.declared.command.Command.{Command}
use Rattle.safebound_words.specs.declared.command.QueryTask.{QueryTask}
use Rattle.safebound_words.specs.declared.command.SchemaTask.TheVariants as schema_tasks
use Rattle.safebound_words.specs.declared.command.QueryTask.TheVariants as query_tasks
use Rattle.prepared_runs.specs.StatsFiles.{stats_file_plan_stage, stats_stage, stats_file_of_tables}
use Rattle.prepared_runs.specs.RunOutcome.{RunOutcome, Planned}
use Rattle.prepared_runs.specs.Shapes.{planned_by, planned_within}
use Rattle.prepared_runs.specs.Sources.{lists_by, bounds_and_lists_by}
use Rattle.plans.specs.declared.bushy.BushyPlan.{BushyPlan}
use Rattle.safebound_words.specs.declared.command.PlanWork.{PlanWork}

-- the command that the words ask for, or Usage if they ask for no command
abbrev pub or_usage : Option Command → Result Command Refusal
or_usage None = Err refusal.Usage
or_usage (Some command) = Ok command

abbrev pub command_stage : List (List ℕ) → Result Command Refusal
command_stage words = or_usage (command_of words)

-- the schema that a text declares; `schema_stage` reads the text from the file `name`
abbrev pub schema_of_text : List ℕ → Result Schema Refusal
schema_of_text text = with_refusal schema_refusal (schema_answer text)

unfoldable pub schema_stage : List ℕ → Files → Result Schema Refusal
schema_stage name files = do
  text ← read file.Schema most_text name files
  schema_of_text text

-- the query that a text asks; `query_stage` reads the text from the file `name`
abbrev pub query_of_text : Schema → List ℕ → Result Query Refusal
query_of_text schema text = with_refusal query_refusal (query_answer schema text)

unfoldable pub query_stage : List ℕ → Schema → Files → Result Query Refusal
query_stage name schema files = do
  text ← read file.Query most_text name files
  query_of_text schema text

-- the plan of a query over its tables, in the shape that the task asks for, by the bounds that its source gives
abbrev pub plan_asked : PlanWork → Schema → Query → Tables → Result BushyPlan PlanError
plan_asked task schema query ts = planned_by task.terms.shape (bounds_and_lists_by task.source schema query ts) task.accuracy task.terms.budget

-- the accepted query: the query, its rows and its plan, and the lists that the task's source of bounds gives for these rows
abbrev pub accepted_query : PlanWork → Query → List (List Row) → BushyPlan → AcceptedQuery
accepted_query task query rows plan = record {
  query = query;
  rows = rows;
  shape = task.terms.shape;
  plan = plan;
  source = task.source;
  lists = lists_by task.source query (tables_in rows);
  memory = task.terms.memory;
  out = task.out;
}

-- the plan of a query over its entries' rows: the best order or tree with its bounds, or a refusal. The refusals are PastBits, Budget with
-- the least cost, and MemoryLimit with the bytes of the plan
unfoldable pub plan_stage : PlanWork → Schema → Query → List (List Row) → Result RunOutcome Refusal
plan_stage task schema query rows =
    planned_within task.terms.memory (λ plan. Planned (accepted_query task query rows plan)) (plan_asked task schema query (tables_in rows))

-- the outcome of the work on a query, or the first refusal
abbrev pub query_task_run : QueryTask → Schema → Query → Files → Result RunOutcome Refusal
query_task_run (query_tasks.Plan task) schema query files = do
  rows ← tables_stage schema query.from files
  plan_stage task schema query rows
query_task_run (query_tasks.WriteStats accuracy) schema query files = do
  rows ← tables_stage schema query.from files
  Ok (stats_file_of_tables schema query rows accuracy)
query_task_run (query_tasks.PlanFromStats name terms) schema query files = do
  stats ← stats_stage name schema files
  stats_file_plan_stage terms query stats

-- the outcome of what a command does after it has read the schema, or the first refusal. It works on a query, or appends new rows
abbrev pub schema_task_run : SchemaTask → Schema → Files → Result RunOutcome Refusal
schema_task_run (schema_tasks.Query name work) schema files = do
  query ← query_stage name schema files
  query_task_run work schema query files
schema_task_run (schema_tasks.Append append) schema files = append_run append schema files

-- the outcome of a run, or the first refusal that applies
unfoldable pub command_run : Command → Files → Result RunOutcome Refusal
command_run command files = do
  schema ← schema_stage command.schema_file files
  schema_task_run command.schema_task schema files

unfoldable pub verdict : List (List ℕ) → Files → Result RunOutcome Refusal
verdict words files = do
  command ← command_stage words
  command_run command files

-- the schema that the verdict reads
unfoldable pub schema_read : List (List ℕ) → Files → Result Schema Refusal
schema_read words files = do
  command ← command_stage words
  schema_stage command.schema_file files

-- ---- which files the verdict reads

-- The file `id` is read for the query: it is the file of one of the query's tables, and no earlier table is refused; or it is the statistics
-- file.
abbrev pub IsQueryTaskFile : QueryTask → Schema → Query → Files → FileId → Type 0
IsQueryTaskFile (query_tasks.Plan task) schema query files id = IsTableReached schema (tables_of_query query.from) files id
IsQueryTaskFile (query_tasks.WriteStats accuracy) schema query files id = IsTableReached schema (tables_of_query query.from) files id
IsQueryTaskFile (query_tasks.PlanFromStats name terms) schema query files id = id ≡ file.Stats

-- The file `id` is read after the schema. It is the file of the query, or it is read for the query. For `append` it is the statistics file,
-- or, if the statistics file has a section of the table, the file of new rows.
abbrev pub IsSchemaTaskFile : SchemaTask → Schema → Files → FileId → Type 0
IsSchemaTaskFile (schema_tasks.Query name work) schema files id =
    (id ≡ file.Query) ⊎ IsOkAnd (query_stage name schema files) (λ query. IsQueryTaskFile work schema query files id)
IsSchemaTaskFile (schema_tasks.Append append) schema files id =
    (id ≡ file.Stats) ⊎ IsOkAnd (section_read append schema files) (λ section. id ≡ file.Table section.table)

-- The verdict reads the file `id`, and no earlier file is refused. It is the schema's file; or the schema's file declares a schema, and the
-- file `id` is read after it. If the words ask for no command, no file is read.
abbrev pub IsReadByVerdict : List (List ℕ) → Files → FileId → Type 0
IsReadByVerdict words files id = IsOkAnd (command_stage words)
    (λ command. (id ≡ file.Schema) ⊎ IsOkAnd (schema_stage command.schema_file files) (λ schema. IsSchemaTaskFile command.schema_task schema files id))
