-- Each command has a course (`CallHistory`). Reading its schema ended early, or the command ran over the schema.
use Rattle.std.proofs.Common.{◌≡◌, ℕ, inl, inr, List, Option, None, Some, Result, Ok, Err, refl, ap, sym, ◌∙◌, subst}
use Rattle.std.specs.Prelude.{codes}
use Rattle.base_io.specs.Files.{Files}
use Rattle.schema_types.specs.declared.types.Schema.{Schema}
use Rattle.base_io.specs.Devices.{Growth, Reading}
use Rattle.outcomes.specs.Reads.{AtFile, EndsEarly, Reads}
use Rattle.outcomes.specs.Statuses.{status_of_failure}
use Rattle.outcomes.specs.declared.failure.Failure.{Failure}
use Rattle.outcomes.specs.declared.failure.Failure.TheVariants as failure
use Rattle.outcomes.specs.declared.names.FileId.{FileId}
use Rattle.outcomes.specs.declared.names.FileId.TheVariants as file
use Rattle.outcomes.specs.declared.refusal.Refusal.{Refusal}
use Rattle.outcomes.specs.declared.refusal.Refusal.TheVariants as refusal
use Rattle.outcomes.specs.declared.status.Status.{Status}
use Rattle.outcomes.specs.declared.status.Status.TheVariants as status
use Rattle.outcomes.proofs.ReadFacts.{IsFollowedBy, joined, reads_as, then_reads, then_stops}
use Rattle.printed_texts.specs.Faults.{error_line, fault_line}
use Rattle.prepared_runs.specs.RunOutcome.{RunOutcome}
use Rattle.safebound_top.specs.Call.{Call}
use Rattle.safebound_top.specs.CallHistory.{Asked, CallHistory, StageRan, EndedEarly, StatusReported, Unasked, RanToEnd}
use Rattle.safebound_top.specs.Faults.{fault_text, names_by, status_line, ok_value}
use Rattle.safebound_top.specs.Headline.{DidNotGrow}
use Rattle.safebound_words.specs.declared.command.SchemaTask.{SchemaTask}
use Rattle.safebound_words.specs.declared.command.Command.{Command}
use Rattle.safebound_words.specs.declared.command.SchemaTask.TheVariants as schema_tasks
use Rattle.prepared_runs.specs.Verdict.{IsSchemaTaskFile, IsReadByVerdict, schema_task_run, command_run, command_stage, schema_read, schema_stage, verdict}

memory_line : (ask : Option Command) (schema : Option Schema) → status_line status.NoMemory ask schema ≡ codes "error memory\n"
unfolding error_line
memory_line None schema = refl
memory_line (Some ask) schema = refl

schema_line : (name : List ℕ) (schema_task : SchemaTask) (schema : Option Schema) → fault_line (status.ReadFault file.Schema) (names_by name schema_task None) ≡ fault_line (status.ReadFault file.Schema) (names_by name schema_task schema)
schema_line name (schema_tasks.Query query work) schema = refl
schema_line name (schema_tasks.Append append) schema = refl

pub memory_told : (s : Status) (ask : Option Command) (schema : Option Schema) → s ≡ status.NoMemory → status_line s ask schema ≡ codes "error memory\n"
memory_told s ask schema is = ap (λ (x : Status). status_line x ask schema) is ∙ memory_line ask schema

-- the words of this call are no command
pub course_unasked : (call : Call) → call.status ≡ status.Refused refusal.Usage → command_stage call.words ≡ Err refusal.Usage → call.store.misses_after ≡ call.store.misses_before → DidNotGrow call.out
    → StatusReported call.notes (status_line call.status None None) → CallHistory call
course_unasked call is words misses out told = record {
  line = status_line call.status None None;
  is_line = λ files _. ap (λ (s : Status). status_line s None None) is ∙ line_is_fault_text files ∙ ap (λ (s : Status). fault_text s call.words files) (sym is);
  memory = memory_told call.status None None;
  how = Unasked (record { status = is; words = words; misses = misses; out = out; told = told });
}
  where
    by : (ask : Option Command) (schema : Option Schema) → status_line (status.Refused refusal.Usage) None None ≡ status_line (status.Refused refusal.Usage) ask schema
    by None schema = refl
    by (Some ask) schema = refl

    line_is_fault_text : (files : Files) → status_line (status.Refused refusal.Usage) None None ≡ fault_text (status.Refused refusal.Usage) call.words files
    line_is_fault_text files = by (ok_value (command_stage call.words)) (ok_value (schema_read call.words files))

module _ (ask : Command) (words : List (List ℕ)) (command : command_stage words ≡ Ok ask) where
  verdict_of : (files : Files) → verdict words files ≡ command_run ask files
  unfolding verdict
  verdict_of files = rw command refl

  schema_of : (files : Files) → schema_read words files ≡ schema_stage ask.schema_file files
  unfolding schema_read
  schema_of files = rw command refl

  pub no_usage : command_stage words ≡ Err refusal.Usage → ⊥
  no_usage is = let no : ◌≡◌ {A = Result Command Refusal} (Ok ask) (Err refusal.Usage) = sym command ∙ is in cc

  -- ---- files that the verdict reads: the schema's file, and the files that the command's aim needs

  reached_schema : (files : Files) (id : FileId) → id ≡ file.Schema → IsReadByVerdict words files id
  reached_schema files id at' = rw command (inl at')

  reached_later : (schema : Schema) (files : Files) (id : FileId) → schema_stage ask.schema_file files ≡ Ok schema → IsSchemaTaskFile ask.schema_task schema files id → IsReadByVerdict words files id
  reached_later schema files id is at' = rw (command, is) (inr at')

  -- ---- the fault text of a command whose schema was read, or wasn't read

  line_of : (s : Status) (files : Files) (r : Result Schema Refusal) → schema_stage ask.schema_file files ≡ r → status_line s (Some ask) (ok_value r) ≡ fault_text s words files
  line_of s files r is =
      ap (λ (v : Result Schema Refusal). status_line s (Some ask) (ok_value v)) (sym (schema_of files ∙ is))
      ∙ ap (λ (v : Result Command Refusal). status_line s (ok_value v) (ok_value (schema_read words files))) (sym command)

  -- ---- the schema's reading ended early

  module _ (s : Status) (store : Reading) (out notes : Growth) (e : Failure) (is : s ≡ status_of_failure e) (reads : Reads store (schema_stage ask.schema_file) (AtFile file.Schema) (Err e)) where
    stopped_line : (files : Files) → store.files ≡ Some files → status_line s (Some ask) None ≡ fault_text s words files
    stopped_line files told = by e refl
      where
        ends_as : (f : Failure) → e ≡ f → EndsEarly store (schema_stage ask.schema_file) (AtFile file.Schema) f
        ends_as f same = subst (EndsEarly store (schema_stage ask.schema_file) (AtFile file.Schema)) same reads.gives

        line_by_status : (t : Status) → s ≡ t → ((r : Option Schema) → status_line t (Some ask) None ≡ status_line t (Some ask) r) → status_line s (Some ask) None ≡ fault_text s words files
        line_by_status t same_as none =
            ap (λ (x : Status). status_line x (Some ask) None) same_as ∙ none (ok_value (schema_stage ask.schema_file files))
            ∙ line_of t files (schema_stage ask.schema_file files) refl ∙ ap (λ (x : Status). fault_text x words files) (sym same_as)

        by : (f : Failure) → e ≡ f → status_line s (Some ask) None ≡ fault_text s words files
        by (failure.Refused r) same = line_of s files (Err r) ((ends_as (failure.Refused r) same).0 files told)
        by (failure.Fault id) same =
            let at' : id ≡ file.Schema = (ends_as (failure.Fault id) same).1 files told in
            line_by_status (status.ReadFault file.Schema) (is ∙ ap status_of_failure same ∙ ap (λ (x : FileId). status.ReadFault x) at') (schema_line ask.schema_file ask.schema_task)
        by failure.NoMemory same = line_by_status status.NoMemory (is ∙ ap status_of_failure same) (λ r. refl)

    stopped_reads : Reads store (verdict words) (IsReadByVerdict words) (Err e)
    unfolding command_run
    stopped_reads =
        reads_as store (command_run ask) (verdict words) (IsReadByVerdict words) (IsReadByVerdict words) (Err e) verdict_of (λ files id at'. at')
        (then_stops (schema_stage ask.schema_file) (schema_task_run ask.schema_task) store (AtFile file.Schema) (IsReadByVerdict words) e reached_schema reads)

    pub course_stopped : DidNotGrow out → StatusReported notes (status_line s (Some ask) None) → CallHistory (record { words = words; status = s; store = store; out = out; notes = notes })
    course_stopped still told = record {
      line = status_line s (Some ask) None;
      is_line = stopped_line;
      memory = memory_told s (Some ask) None;
      how = Asked (record { words = no_usage; ran = EndedEarly e is stopped_reads still told });
    }

  -- ---- the schema was read

  module _ (s : Status) (first second : Reading) (out notes : Growth) (schema : Schema) (meets : IsFollowedBy first second)
      (reads : Reads first (schema_stage ask.schema_file) (AtFile file.Schema) (Ok schema)) where
    ran_reads : (answer : Result RunOutcome Failure) → Reads second (schema_task_run ask.schema_task schema) (IsSchemaTaskFile ask.schema_task schema) answer → Reads (joined first second) (verdict words) (IsReadByVerdict words) answer
    unfolding command_run
    ran_reads answer h =
        reads_as (joined first second) (command_run ask) (verdict words) (IsReadByVerdict words) (IsReadByVerdict words) answer verdict_of (λ files id at'. at')
        (then_reads (schema_stage ask.schema_file) (schema_task_run ask.schema_task) first second (AtFile file.Schema) (IsSchemaTaskFile ask.schema_task schema) (IsReadByVerdict words) schema answer meets
        (reached_later schema) reads h)

    ran_so : StageRan s second out notes (schema_task_run ask.schema_task schema) (IsSchemaTaskFile ask.schema_task schema) (status_line s (Some ask) (Some schema))
        → StageRan s (joined first second) out notes (verdict words) (IsReadByVerdict words) (status_line s (Some ask) (Some schema))
    ran_so (EndedEarly e is h still told) = EndedEarly e is (ran_reads (Err e) h) still told
    ran_so (RanToEnd outcome h written) = RanToEnd outcome (ran_reads (Ok outcome) h) written

    pub course_ran : StageRan s second out notes (schema_task_run ask.schema_task schema) (IsSchemaTaskFile ask.schema_task schema) (status_line s (Some ask) (Some schema))
        → CallHistory (record { words = words; status = s; store = joined first second; out = out; notes = notes })
    course_ran ran = record {
      line = status_line s (Some ask) (Some schema);
      is_line = λ files told. line_of s files (Ok schema) (reads.gives files told);
      memory = memory_told s (Some ask) (Some schema);
      how = Asked (record { words = no_usage; ran = ran_so ran });
    }
