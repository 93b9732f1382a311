-- Each function does what its stage of the verdict requires.
use Rattle.std.proofs.Common.{◌≡◌, ℕ, inl, inr, List, Result, Ok, Err, ap, sym, ◌∙◌, subst}
use Rattle.std.specs.Prelude.{IfOk, IfErr, IsOkAnd}
use Rattle.base_io.specs.Files.{Files}
use Rattle.csv_tables.specs.Rows.{Row}
use Rattle.query_types.specs.declared.types.Query.{Query}
use Rattle.schema_types.specs.declared.types.Schema.{Schema}
use Rattle.text_answers.specs.QueryTexts.{query_answer}
use Rattle.text_answers.specs.SchemaTexts.{schema_answer}
use Rattle.base_io.specs.Devices.{Reading}
use Rattle.outcomes.specs.Errors.{query_refusal, schema_refusal}
use Rattle.outcomes.specs.Reads.{AtFile, Reads, StopsBy, mapped, with_refusal}
use Rattle.outcomes.specs.declared.failure.Failure.{Failure}
use Rattle.outcomes.specs.declared.names.FileId.{FileId}
use Rattle.outcomes.specs.declared.names.FileId.TheVariants as file
use Rattle.outcomes.specs.declared.refusal.Refusal.{Refusal}
use Rattle.outcomes.proofs.ReadFacts.{IsFollowedBy, joined, then_gives, then_reads, then_stops, then_fails}
use Rattle.table_files.specs.Stage.{tables_stage}
use Rattle.table_files.specs.TableFile.{read}
use Rattle.safebound_words.specs.declared.command.SchemaTask.{SchemaTask}
use Rattle.safebound_words.specs.declared.command.QueryTask.{QueryTask}
use Rattle.safebound_words.specs.declared.command.SchemaTask.TheVariants as schema_tasks
use Rattle.safebound_words.specs.declared.command.QueryTask.TheVariants as query_tasks
use Rattle.prepared_runs.specs.RunOutcome.{RunOutcome}
use Rattle.prepared_runs.specs.PreparedRun.{planned_outcome}
use Rattle.prepared_runs.specs.Verdict.{IsSchemaTaskFile, IsQueryTaskFile, schema_task_run, plan_stage, query_of_text, query_stage, schema_of_text, schema_stage, query_task_run}
use Rattle.prepared_runs.specs.declared.prepare.PreparedQuery.{PreparedQuery}
use Rattle.safebound_words.specs.declared.command.PlanWork.{PlanWork}

-- ---- the schema, from its file's bytes

module _ {store : Reading} (name : List ℕ) where
  pub schema_stops : (e : Failure) → Reads store (read file.Schema 1048576 name) (AtFile file.Schema) (Err e) → Reads store (schema_stage name) (AtFile file.Schema) (Err e)
  unfolding schema_stage
  schema_stops e h = then_stops (read file.Schema 1048576 name) (λ text files. schema_of_text text) store (AtFile file.Schema) (AtFile file.Schema) e (λ files id at. at) h

  pub schema_spelled : (text slice : List ℕ) (schema : Schema) → slice ≡ text → schema_answer slice ≡ Ok schema
      → Reads store (read file.Schema 1048576 name) (AtFile file.Schema) (Ok text) → Reads store (schema_stage name) (AtFile file.Schema) (Ok schema)
  unfolding schema_stage
  schema_spelled text slice schema same answer h =
      then_gives store (read file.Schema 1048576 name) schema_of_text (AtFile file.Schema) (AtFile file.Schema) text schema
      (ap schema_of_text (sym same) ∙ ap (with_refusal schema_refusal) answer) h

  pub schema_refused : (text slice : List ℕ) (e : Failure) → slice ≡ text → StopsBy (with_refusal schema_refusal (schema_answer slice)) e
      → Reads store (read file.Schema 1048576 name) (AtFile file.Schema) (Ok text) → Reads store (schema_stage name) (AtFile file.Schema) (Err e)
  unfolding schema_stage
  schema_refused text slice e same tells h =
      then_fails store (read file.Schema 1048576 name) schema_of_text (AtFile file.Schema) (AtFile file.Schema) text e
      (subst (λ (t : List ℕ). StopsBy (schema_of_text t) e) same tells) h

-- ---- the query, from its file's bytes

module _ {store : Reading} (name : List ℕ) (schema : Schema) where
  pub query_stops : (e : Failure) → Reads store (read file.Query 1048576 name) (AtFile file.Query) (Err e) → Reads store (query_stage name schema) (AtFile file.Query) (Err e)
  unfolding query_stage
  query_stops e h = then_stops (read file.Query 1048576 name) (λ text files. query_of_text schema text) store (AtFile file.Query) (AtFile file.Query) e (λ files id at. at) h

  pub query_spelled : (text slice : List ℕ) (query : Query) → slice ≡ text → query_answer schema slice ≡ Ok query
      → Reads store (read file.Query 1048576 name) (AtFile file.Query) (Ok text) → Reads store (query_stage name schema) (AtFile file.Query) (Ok query)
  unfolding query_stage
  query_spelled text slice query same answer h =
      then_gives store (read file.Query 1048576 name) (query_of_text schema) (AtFile file.Query) (AtFile file.Query) text query
      (ap (query_of_text schema) (sym same) ∙ ap (with_refusal query_refusal) answer) h

  pub query_refused : (text slice : List ℕ) (e : Failure) → slice ≡ text → StopsBy (with_refusal query_refusal (query_answer schema slice)) e
      → Reads store (read file.Query 1048576 name) (AtFile file.Query) (Ok text) → Reads store (query_stage name schema) (AtFile file.Query) (Err e)
  unfolding query_stage
  query_refused text slice e same tells h =
      then_fails store (read file.Query 1048576 name) (query_of_text schema) (AtFile file.Query) (AtFile file.Query) text e
      (subst (λ (t : List ℕ). StopsBy (query_of_text schema t) e) same tells) h

-- ---- the stages from the tables on

module _ {store : Reading} (task : PlanWork) (schema : Schema) (query : Query) (C : Files → FileId → Type 0) where
  pub tables_stop : (e : Failure) → Reads store (tables_stage schema query.from) C (Err e) → Reads store (query_task_run (query_tasks.Plan task) schema query) C (Err e)
  tables_stop e h = then_stops (tables_stage schema query.from) (λ rows files. plan_stage task schema query rows) store C C e (λ files id at. at) h

  pub tables_ran : (rows : List (List Row)) (result : Result PreparedQuery Failure) → IfOk result (λ p. plan_stage task schema query rows ≡ Ok (planned_outcome p))
      → IfErr result (StopsBy (plan_stage task schema query rows)) → Reads store (tables_stage schema query.from) C (Ok rows)
      → Reads store (query_task_run (query_tasks.Plan task) schema query) C (mapped planned_outcome result)
  tables_ran rows (Ok p) is tells h = then_gives store (tables_stage schema query.from) (plan_stage task schema query) C C rows (planned_outcome p) is h
  tables_ran rows (Err e) is tells h = then_fails store (tables_stage schema query.from) (plan_stage task schema query) C C rows e tells h

pub work_done : {store : Reading} (asked work : QueryTask) (schema : Schema) (query : Query) (answer : Result RunOutcome Failure) → asked ≡ work
    → Reads store (query_task_run work schema query) (IsQueryTaskFile work schema query) answer
    → Reads store (query_task_run asked schema query) (IsQueryTaskFile asked schema query) answer
work_done {store} asked work schema query answer is h =
    subst (λ (w : QueryTask). Reads store (query_task_run w schema query) (IsQueryTaskFile w schema query) answer) (sym is) h

-- ---- the stages after the schema

module _ (name : List ℕ) (work : QueryTask) (schema : Schema) where
  abbrev AtQueryOrFile : Files → FileId → Type 0
  AtQueryOrFile = IsSchemaTaskFile (schema_tasks.Query name work) schema

  pub query_not_run : {store : Reading} (e : Failure) → Reads store (query_stage name schema) (AtFile file.Query) (Err e)
      → Reads store (schema_task_run (schema_tasks.Query name work) schema) AtQueryOrFile (Err e)
  query_not_run {store} e h =
      then_stops (query_stage name schema) (query_task_run work schema) store (AtFile file.Query) AtQueryOrFile e (λ files id at'. inl at') h

  pub query_ran : (first second : Reading) (query : Query) (answer : Result RunOutcome Failure) → IsFollowedBy first second
      → Reads first (query_stage name schema) (AtFile file.Query) (Ok query)
      → Reads second (query_task_run work schema query) (IsQueryTaskFile work schema query) answer
      → Reads (joined first second) (schema_task_run (schema_tasks.Query name work) schema) AtQueryOrFile answer
  query_ran first second query answer meets h k =
      then_reads (query_stage name schema) (query_task_run work schema) first second (AtFile file.Query) (IsQueryTaskFile work schema query)
      AtQueryOrFile query answer meets
      (λ files id is at'. inr (subst (λ (r : Result Query Refusal). IsOkAnd r (λ q. IsQueryTaskFile work schema q files id)) (sym is) at')) h k

pub schema_task_done : {store : Reading} (asked schema_task : SchemaTask) (schema : Schema) (answer : Result RunOutcome Failure) → asked ≡ schema_task
    → Reads store (schema_task_run schema_task schema) (IsSchemaTaskFile schema_task schema) answer → Reads store (schema_task_run asked schema) (IsSchemaTaskFile asked schema) answer
schema_task_done {store} asked schema_task schema answer is h =
    subst (λ (a : SchemaTask). Reads store (schema_task_run a schema) (IsSchemaTaskFile a schema) answer) (sym is) h
