-- What `append` does by the verdict, stage by stage.
use Rattle.std.proofs.Common.{◌≡◌, ℕ, ◌+◌, ◌≤◌, true, List, length, Some, Result, Ok, inl, inr, refl, ap, sym, ◌∙◌, subst, arith}
use Rattle.std.specs.Prelude.{IfOk, nat_le}
use Rattle.std.proofs.lemmas.Bool.{cases_Bool}
use Rattle.std.proofs.lemmas.Bool.Decides.{nat_tests}
use Rattle.appended_stats.specs.Appended.{file_after}
use Rattle.appended_stats.proofs.StillStands.{file_still_stands}
use Rattle.base_io.specs.Files.{Files}
use Rattle.csv_tables.specs.Rows.{Row}
use Rattle.limits.specs.Profile.{most_rows}
use Rattle.outcomes.specs.Reads.{◌>>=◌}
use Rattle.outcomes.specs.declared.refusal.Refusal.{Refusal}
use Rattle.safebound_words.specs.Answer.{command_of}
use Rattle.schema_types.specs.Validity.{IsValid}
use Rattle.schema_types.specs.declared.types.Schema.{Schema}
use Rattle.stats_file.specs.Rules.{KeepsRules}
use Rattle.stats_file.specs.declared.types.StatsFile.{StatsFile}
use Rattle.table_files.specs.Stage.{table_at}
use Rattle.table_files.specs.TableFile.{rows_in}
use Rattle.table_files.proofs.EntryLaws.{two_steps}
use Rattle.prepared_runs.specs.Appending.{append_run, grown_stage, rows_run, section_stage, stats_run}
use Rattle.safebound_words.specs.Commands.{append_command}
use Rattle.safebound_words.specs.declared.command.Command.{Command}
use Rattle.safebound_words.specs.declared.command.NewRows.{NewRows}
use Rattle.safebound_words.specs.declared.command.SchemaTask.TheVariants as schema_tasks
use Rattle.prepared_runs.specs.StatsFiles.{stats_stage}
use Rattle.prepared_runs.specs.RunOutcome.{Appended, BoundsHoldForItsTables, NoBoundIsTooLow, RunOutcome, PlannedFromStats}
use Rattle.prepared_runs.specs.Verdict.{schema_task_run, command_run, command_stage, or_usage, schema_stage, verdict}
use Rattle.prepared_runs.proofs.StatsFileRuns.{stats_keep}
use Rattle.prepared_runs.proofs.Runs.{bounds_hold, schema_ok}
use Rattle.safebound_laws.specs.Appends.{GrowsByFile, NoBoundIsTooLowAfter, StandsAfter}

holds_for_value : {A : Type 0} (P : A → Type 0) (r : Result A Refusal) (x : A) → r ≡ Ok x → IfOk r P → P x
holds_for_value P r x is holds = subst (λ (s : Result _ Refusal). IfOk s P) is holds

at_most_if_test : (n most : ℕ) → nat_le n most ≡ true → n ≤ most
at_most_if_test n most is = grind (arith, nat_tests)

module _ (schema : Schema) (stats : StatsFile) (table before : ℕ) (rows : List Row) where
  abbrev made : RunOutcome
  made = Appended (record { schema = schema; table = table; rows = rows; file = file_after stats table rows })

  grown_within_most_rows : (outcome : RunOutcome) → grown_stage schema stats table before rows ≡ Ok outcome → (before + length rows ≤ most_rows) × (outcome ≡ made)
  unfolding grown_stage
  grown_within_most_rows outcome is = elim (cases_Bool (nat_le (before + length rows) most_rows)) [
    | inl few ↦ (let so : ◌≡◌ {A = Result RunOutcome Refusal} (Ok made) (Ok outcome) = rw few at is in (at_most_if_test (before + length rows) most_rows few, cc))
    | inr many ↦ absurd (let no = rw many at is in cc)
  ]

module _ (files : Files) (schema_file : List ℕ) (append : NewRows) (outcome : RunOutcome) where
  pub append_run_grows : command_run (append_command schema_file append) files ≡ Ok outcome → GrowsByFile files schema_file append.stats_file append.table append.rows_file outcome
  unfolding command_run append_run stats_run rows_run
  append_run_grows is =
      let first = two_steps (schema_stage schema_file files) (λ schema. schema_task_run (schema_tasks.Append append) schema files) outcome is in
      let second = two_steps (stats_stage append.stats_file first.0 files) (λ stats. stats_run append first.0 stats files) outcome first.2 in
      let third = two_steps (section_stage append.table first.0 second.0) (λ section. rows_run append.rows_file first.0 second.0 section.table section.rows files) outcome second.2 in
      let read = two_steps (rows_in third.0.table (table_at first.0 third.0.table) append.rows_file files) (grown_stage first.0 second.0 third.0.table third.0.rows) outcome third.2 in
      let last = grown_within_most_rows first.0 second.0 third.0.table third.0.rows read.0 outcome read.2 in
      record {
        schema = first.0;
        schema_is = first.1;
        before = second.0;
        before_is = second.1;
        section = third.0;
        section_is = third.1;
        rows = read.0;
        rows_are = read.1;
        few = last.0;
        after = file_after second.0 third.0.table read.0;
        after_is = refl;
        written = last.1;
      }

pub append_grows : (words : List (List ℕ)) (files : Files) (schema stats name rows : List ℕ) (outcome : RunOutcome) → command_of words ≡ Some (append_command schema (record { stats_file = stats; table = name; rows_file = rows }))
    → verdict words files ≡ Ok outcome → GrowsByFile files schema stats name rows outcome
unfolding verdict
append_grows words files schema stats name rows outcome command is =
    let append : NewRows = record { stats_file = stats; table = name; rows_file = rows } in
    let asked : command_stage words ≡ Ok (append_command schema append) = ap or_usage command in
    append_run_grows files schema append outcome (sym (ap (λ (r : Result Command Refusal). r >>= (λ ask. command_run ask files)) asked) ∙ is)

module _ (files : Files) (schema stats name rows : List ℕ) (outcome : RunOutcome) (grows : GrowsByFile files schema stats name rows outcome) where
  pub keeps : KeepsRules grows.schema grows.before
  keeps =
      let valid : IsValid grows.schema = holds_for_value IsValid (schema_stage schema files) grows.schema grows.schema_is (schema_ok schema files) in
      holds_for_value (KeepsRules grows.schema) (stats_stage stats grows.schema files) grows.before grows.before_is (stats_keep stats grows.schema files valid)

  pub append_stands : StandsAfter grows.before grows.section.table grows.rows grows.after
  append_stands query tables grown stood has =
      rw grows.after_is (file_still_stands grows.before grows.section.table grows.rows grows.schema query tables grown keeps stood has)

  pub append_plans : NoBoundIsTooLowAfter grows.before grows.section.table grows.rows grows.after
  append_plans words later plan tables grown is from' stood has =
      let holds : BoundsHoldForItsTables plan = holds_for_value NoBoundIsTooLow (verdict words later) (PlannedFromStats plan) is (bounds_hold words later) in
      holds grown (rw from' (append_stands plan.query tables grown stood has))
