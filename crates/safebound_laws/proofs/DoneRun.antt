-- A call that ended with Done has an outcome, whose texts are in its streams. Two readings of the same bytes give the same file.
use Rattle.std.proofs.Common.{◌≡◌, ℕ, List, ◌++◌, Option, Some, Result, Ok, Err, refl, ap, sym, ◌∙◌, subst}
use Rattle.std.specs.Prelude.{IsOkAnd, IfOk}
use Rattle.std.proofs.lemmas.List.{append_cancel_left}
use Rattle.base_io.specs.Devices.{Growth}
use Rattle.base_io.specs.Files.{Files, file_of}
use Rattle.base_io.specs.Sinks.{appended}
use Rattle.limits.specs.Profile.{most_file}
use Rattle.outcomes.specs.Errors.{stats_refusal}
use Rattle.outcomes.specs.Reads.{◌>>=◌}
use Rattle.outcomes.specs.declared.names.FileId.TheVariants as file_id
use Rattle.outcomes.specs.declared.refusal.Refusal.{Refusal}
use Rattle.safebound_words.specs.InRange.{HasRanges}
use Rattle.safebound_words.specs.declared.command.Command.{Command}
use Rattle.safebound_words.proofs.Readings.{asked_computed}
use Rattle.schema_types.proofs.Valid.{declares_valid}
use Rattle.schema_types.specs.Texts.{IsSchemaOf}
use Rattle.schema_types.specs.Validity.{IsValid}
use Rattle.schema_types.specs.declared.types.Schema.{Schema}
use Rattle.stats_answers.proofs.ByteNames.{declared_bytes}
use Rattle.stats_answers.proofs.StatsAnswers.{written_file_is_read}
use Rattle.stats_answers.specs.StatsTexts.{stats_answer}
use Rattle.stats_file.specs.FileText.{file_text}
use Rattle.stats_file.specs.Rules.{KeepsRules}
use Rattle.stats_file.specs.declared.types.StatsError.{StatsError}
use Rattle.stats_file.specs.declared.types.StatsFile.{StatsFile}
use Rattle.stats_reading.specs.Names.{HasByteColumns}
use Rattle.table_files.specs.TableFile.{read}
use Rattle.table_files.proofs.EntryLaws.{two_steps}
use Rattle.table_files.proofs.StagedFiles.{read_ok, ok_without_refusal}
use Rattle.prepared_runs.specs.StatsFiles.{stats_of_text, stats_stage}
use Rattle.prepared_runs.specs.RunOutcome.{NoBoundIsTooLow, RunOutcome}
use Rattle.prepared_runs.specs.Verdict.{command_run, command_stage, or_usage, schema_stage, verdict}
use Rattle.prepared_runs.proofs.CommandFacts.{has_ranges}
use Rattle.safebound_top.specs.Call.{Call, Grew}
use Rattle.safebound_top.specs.Headline.{GrewWhole}
use Rattle.safebound_top.specs.OutcomeTexts.{notes_text, out_text}
use Rattle.safebound_top.specs.Promise.{DeclaresSchema}
use Rattle.safebound_top.proofs.Promises.{declares}
use Rattle.safebound_laws.specs.FileCalls.{IsDone, TookExactly}

-- ---- the value of a result

ok_and : {A E : Type 0} (P : A → Type 0) (r : Result A E) → IsOkAnd r P → (x : A) × (r ≡ Ok x) × P x
ok_and P (Ok x) h = (x, refl, h)
ok_and P (Err e) h = absurd h

pub if_ok : {A E : Type 0} (P : A → Type 0) (r : Result A E) (x : A) → r ≡ Ok x → IfOk r P → P x
if_ok P r x e h = subst (λ s. IfOk s P) e h

pub same_some : {A : Type 0} (a b : A) → ◌≡◌ {A = Option A} (Some a) (Some b) → a ≡ b
same_some a b e = cc

pub same_ok : {A E : Type 0} (a b : A) → ◌≡◌ {A = Result A E} (Ok a) (Ok b) → a ≡ b
same_ok a b e = cc

-- ---- the outcome of the call, and its texts in the streams

module _ (call : Call) (command : Command) (files : Files) (done : IsDone call command files) where
  pub record DoneRun : Type 0 where
    pub outcome : RunOutcome
    pub ran : command_run command files ≡ Ok outcome
    pub notes : GrewWhole call.notes (notes_text outcome)
    pub out : GrewWhole call.out (out_text outcome)
    pub holds : NoBoundIsTooLow outcome

  asked : command_stage call.words ≡ Ok command
  asked = ap or_usage (asked_computed call.words command done.asked)

  pub done_run_of_call : DoneRun
  unfolding verdict
  done_run_of_call =
      let accepted = ok_and (λ outcome. GrewWhole call.notes (notes_text outcome) × GrewWhole call.out (out_text outcome)) (verdict call.words files)
      (done.headline.done_is_exact done.done files done.told) in
      record {
        outcome = accepted.0;
        ran = sym (ap (λ (r : Result Command Refusal). r >>= (λ ask. command_run ask files)) asked) ∙ accepted.1;
        notes = accepted.2.0;
        out = accepted.2.1;
        holds = if_ok NoBoundIsTooLow (verdict call.words files) accepted.0 accepted.1 (done.headline.every_bound_holds files done.told);
      }

  pub ranges : HasRanges command.schema_task
  ranges = has_ranges call.words command asked

-- ---- bytes that were written and read

pub took_text : (sink : Growth) (text bytes : List ℕ) → Grew sink text → TookExactly sink bytes → text ≡ bytes
took_text sink text bytes grew (before, was, now) =
    let both : Some (before ++ text) ≡ Some (before ++ bytes) = sym (ap (λ (s : Option (List ℕ)). appended s text) was) ∙ sym grew ∙ now in
    append_cancel_left before text bytes (same_some (before ++ text) (before ++ bytes) both)

module _ (files : Files) (name : List ℕ) (schema : Schema) (said : DeclaresSchema files name schema) where
  pub same_schema : (read : Schema) → schema_stage name files ≡ Ok read → read ≡ schema
  same_schema read staged =
      let also : DeclaresSchema files name read = declares name files read staged in
      let text : also.text ≡ said.text = same_some also.text said.text (sym also.there ∙ said.there) in
      said.declares.only read (subst (λ (t : List ℕ). IsSchemaOf t (Ok read)) text also.declares.is)

  pub is_valid : IsValid schema
  is_valid = declares_valid said.text schema said.declares.is

  pub byte_columns : HasByteColumns schema
  byte_columns = declared_bytes said.text schema said.declares.is

pub stats_read_are_written : (name : List ℕ) (schema : Schema) (files : Files) (stats file : StatsFile) → IsValid schema → HasByteColumns schema → KeepsRules schema file
    → file_of files name ≡ Some (file_text schema file) → stats_stage name schema files ≡ Ok stats → stats ≡ file
unfolding stats_stage
stats_read_are_written name schema files stats file valid columns keeps there staged =
    let steps = two_steps (read file_id.Stats most_file name files) (stats_of_text schema) stats staged in
    let text : steps.0 ≡ file_text schema file = same_some steps.0 (file_text schema file) (sym (read_ok file_id.Stats most_file name files steps.0 steps.1) ∙ there) in
    let answered : stats_answer schema steps.0 ≡ Ok stats = ok_without_refusal stats_refusal (stats_answer schema steps.0) stats steps.2 in
    same_ok {E = StatsError} stats file (sym answered ∙ ap (stats_answer schema) text ∙ written_file_is_read schema file valid columns keeps)
