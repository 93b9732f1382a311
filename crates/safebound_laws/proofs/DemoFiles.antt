-- No file of `demo` is absent, and no read of its store fails, so `demo` never ends with a read fault.
use Rattle.std.proofs.Common.{◌≡◌, inl, inr, ℕ, List, Option, None, Some, Result, Ok, Err, refl, ap, sym, ◌∙◌, subst, arith}
use Rattle.std.specs.Prelude.{codes}
use Rattle.base_io.specs.Causes.{Rose}
use Rattle.base_io.specs.Devices.{Reading}
use Rattle.base_io.specs.Files.{Files}
use Rattle.demo_files.specs.Files.{demo_files}
use Rattle.demo_files.specs.Texts.{query_text, schema_text}
use Rattle.schema_types.specs.declared.errors.SchemaError.{SchemaError}
use Rattle.schema_types.specs.declared.errors.SchemaError.TheVariants as schema_error
use Rattle.schema_types.specs.declared.types.Schema.{Schema}
use Rattle.csv_tables.specs.Rows.{Row}
use Rattle.query_names.specs.declared.errors.QueryError.{QueryError}
use Rattle.query_names.specs.declared.errors.QueryError.TheVariants as query_error
use Rattle.query_types.specs.Validity.{IsQueryOf}
use Rattle.query_types.specs.declared.types.Query.{Query}
use Rattle.order_search.specs.declared.refusal.PlanError.{PlanError}
use Rattle.order_search.specs.declared.refusal.PlanError.TheVariants as plan_error
use Rattle.text_answers.specs.QueryTexts.{query_answer}
use Rattle.text_answers.specs.SchemaTexts.{schema_answer}
use Rattle.outcomes.specs.Errors.{plan_refusal, query_refusal, schema_refusal}
use Rattle.outcomes.specs.Reads.{◌>>=◌, MissesNothing, with_refusal}
use Rattle.outcomes.specs.declared.names.FileId.{FileId}
use Rattle.outcomes.specs.declared.refusal.Refusal.{Refusal}
use Rattle.outcomes.specs.declared.refusal.Refusal.TheVariants as refusal
use Rattle.outcomes.specs.declared.status.Status.TheVariants as status
use Rattle.tree_rows.specs.Memory.{tree_bytes}
use Rattle.table_files.specs.EntryTables.{tables_in}
use Rattle.table_files.specs.Stage.{tables_stage}
use Rattle.demo_tables.proofs.Absences.{query_there, schema_there, tables_miss, then_misses}
use Rattle.safebound_words.specs.Answer.{command_of}
use Rattle.safebound_words.specs.Commands.{demo_of, over_query}
use Rattle.safebound_words.proofs.Ranges.{demo_of_shop}
use Rattle.safebound_words.specs.declared.command.Command.{Command}
use Rattle.safebound_words.specs.declared.command.QueryTask.TheVariants as query_tasks
use Rattle.safebound_top.specs.Call.{Call}
use Rattle.safebound_top.specs.Headline.{Headline}
use Rattle.prepared_runs.specs.Limits.{within_limit}
use Rattle.prepared_runs.specs.RunOutcome.{Planned}
use Rattle.prepared_runs.specs.Shops.{shop_asked, demo_number_of, shop_store}
use Rattle.prepared_runs.specs.Verdict.{schema_task_run, command_run, command_stage, plan_asked, plan_stage, query_of_text, query_stage, or_usage, accepted_query, schema_of_text, schema_stage, verdict, query_task_run}
use Rattle.safebound_words.specs.declared.command.PlanWork.{PlanWork}
use Rattle.prepared_runs.proofs.LimitFacts.{within_misses}
use Rattle.table_files.proofs.StagedFiles.{ok_without_refusal}
use Rattle.safebound_top.proofs.Promises.{query_of_schema}

-- ---- no reader of a text gives the refusal Missing

schema_results_miss_nothing : {A : Type 0} (r : Result A SchemaError) → MissesNothing (with_refusal schema_refusal r)
schema_results_miss_nothing (Ok schema) id e = cc
schema_results_miss_nothing (Err (schema_error.Syntax at)) id e = cc
schema_results_miss_nothing (Err (schema_error.Name at)) id e = cc
schema_results_miss_nothing (Err (schema_error.Nullable at)) id e = cc
schema_results_miss_nothing (Err (schema_error.Limit which found)) id e = cc
schema_results_miss_nothing (Err schema_error.NoMemory) id e = cc

query_results_miss_nothing : {A : Type 0} (r : Result A QueryError) → MissesNothing (with_refusal query_refusal r)
query_results_miss_nothing (Ok query) id e = cc
query_results_miss_nothing (Err (query_error.Syntax at)) id e = cc
query_results_miss_nothing (Err (query_error.Name at)) id e = cc
query_results_miss_nothing (Err (query_error.Kind at)) id e = cc
query_results_miss_nothing (Err (query_error.Limit which found)) id e = cc
query_results_miss_nothing (Err query_error.NoMemory) id e = cc

plan_results_miss_nothing : {A : Type 0} (r : Result A PlanError) → MissesNothing (with_refusal plan_refusal r)
plan_results_miss_nothing (Ok plan) id e = cc
plan_results_miss_nothing (Err (plan_error.Budget least)) id e = cc
plan_results_miss_nothing (Err plan_error.PastBits) id e = cc
plan_results_miss_nothing (Err plan_error.NoMemory) id e = cc

-- ---- the stages over the shop's files

module _ (number : ℕ) where
  abbrev files : Files
  files = demo_files number

  schema_is : schema_stage (codes "schema.sql") (demo_files number) ≡ schema_of_text schema_text
  unfolding schema_stage
  schema_is = ap (λ (r : Result (List ℕ) Refusal). r >>= schema_of_text) (schema_there number)

  query_is : (schema : Schema) → query_stage (codes "query.sql") schema (demo_files number) ≡ query_of_text schema query_text
  unfolding query_stage
  query_is schema = ap (λ (r : Result (List ℕ) Refusal). r >>= query_of_text schema) (query_there number)

  module _ (task : PlanWork) where
    abbrev ask : Command
    ask = over_query (Some number) (codes "schema.sql") (codes "query.sql") (query_tasks.Plan task)

    plan_stage_misses_nothing : (schema : Schema) (query : Query) (rows : List (List Row)) → MissesNothing (plan_stage task schema query rows)
    unfolding plan_stage
    plan_stage_misses_nothing schema query rows =
        then_misses (with_refusal plan_refusal (plan_asked task schema query (tables_in rows))) (λ plan. within_limit task.terms.memory (tree_bytes plan) (Planned (accepted_query task query rows plan)))
        (plan_results_miss_nothing (plan_asked task schema query (tables_in rows)))
        (λ plan _. within_misses task.terms.memory (tree_bytes plan) (Planned (accepted_query task query rows plan)))

    query_stages_miss_nothing : (schema : Schema) (query : Query) → schema_answer schema_text ≡ Ok schema → IsQueryOf schema query
        → MissesNothing (query_task_run (query_tasks.Plan task) schema query (demo_files number))
    query_stages_miss_nothing schema query read_as of =
        then_misses (tables_stage schema query.from files) (plan_stage task schema query) (tables_miss number schema query read_as of)
        (λ rows _. plan_stage_misses_nothing schema query rows)

    schema_stages_miss_nothing : (schema : Schema) → schema_answer schema_text ≡ Ok schema → MissesNothing (schema_task_run ask.schema_task schema (demo_files number))
    schema_stages_miss_nothing schema read_as =
        then_misses (query_stage (codes "query.sql") schema files) (λ query. query_task_run (query_tasks.Plan task) schema query files)
        (subst MissesNothing (sym (query_is schema)) (query_results_miss_nothing (query_answer schema query_text)))
        (λ query there. query_stages_miss_nothing schema query read_as (query_of_schema (codes "query.sql") files schema query there))

    command_misses_nothing : MissesNothing (command_run (over_query (Some number) (codes "schema.sql") (codes "query.sql") (query_tasks.Plan task)) (demo_files number))
    unfolding command_run
    command_misses_nothing =
        then_misses (schema_stage (codes "schema.sql") files) (λ schema. schema_task_run ask.schema_task schema files)
        (subst MissesNothing (sym schema_is) (schema_results_miss_nothing (schema_answer schema_text)))
        (λ schema there. schema_stages_miss_nothing schema (ok_without_refusal schema_refusal (schema_answer schema_text) schema (sym schema_is ∙ there)))

-- ---- the words of a call of `demo`

demo_asked : (words : List (List ℕ)) (number : ℕ) (asked : Option Command) → command_of words ≡ asked → shop_asked asked ≡ Some number
    → asked ≡ Some (demo_of number)
demo_asked words number None is e = cc
demo_asked words number (Some command) is e = ap (λ (c : Command). Some c) (demo_of_shop words command is number e)

pub demo_misses_nothing : (number : ℕ) (words : List (List ℕ)) → demo_number_of words ≡ Some number → MissesNothing (verdict words (demo_files number))
unfolding verdict
demo_misses_nothing number words is =
    let asked : command_stage words ≡ Ok (demo_of number) = ap or_usage (demo_asked words number (command_of words) refl is) in
    subst (λ (r : Result Command Refusal). MissesNothing (r >>= (λ command. command_run command (demo_files number)))) (sym asked) (command_misses_nothing number _)

-- ---- a call over the shop's store

zero_does_not_rise : Rose 0 0 → ⊥
zero_does_not_rise (inl less) = omega (arith, less)
zero_does_not_rise (inr full) = omega (arith, full)

pub no_read_fault : (call : Call) (number : ℕ) → Headline call → demo_number_of call.words ≡ Some number → call.store ≡ shop_store number
    → (file : FileId) → call.status ≡ status.ReadFault file → ⊥
no_read_fault call number h is store file fault =
    zero_does_not_rise (subst (λ (s : Reading). Rose s.faults_before s.faults_after) store (h.read_faults_have_their_cause.told file fault).0)

pub no_absent_file : (call : Call) (number : ℕ) → Headline call → demo_number_of call.words ≡ Some number → call.store ≡ shop_store number
    → (file : FileId) → call.status ≡ status.Refused (refusal.Missing file) → ⊥
no_absent_file call number h is store file absent =
    let told = (h.refusals_are_the_verdict.told (refusal.Missing file) absent).1 (demo_files number) (ap (λ (s : Reading). s.files) store) in
    demo_misses_nothing number call.words is file told.0
