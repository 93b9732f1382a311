-- Every outcome of `append` is an earlier statistics file after new rows were counted. It stands for the earlier file's tables with these rows
-- (`StandsAfterAppend`).
use Rattle.std.proofs.Common.{ℕ, ◌+◌, List, Result, Ok, Err, length, refl, inl, inr}
use Rattle.std.specs.Prelude.{IfOk, nat_le}
use Rattle.std.proofs.lemmas.Bool.{cases_Bool}
use Rattle.appended_stats.specs.Appended.{file_after}
use Rattle.appended_stats.proofs.StillStands.{file_still_stands}
use Rattle.base_io.specs.Files.{Files}
use Rattle.csv_tables.specs.Rows.{Row}
use Rattle.limits.specs.Profile.{most_rows}
use Rattle.outcomes.specs.Reads.{◌>>=◌}
use Rattle.outcomes.specs.declared.refusal.Refusal.{Refusal}
use Rattle.schema_types.specs.Validity.{IsValid}
use Rattle.schema_types.specs.declared.types.Schema.{Schema}
use Rattle.stats_file.specs.Rules.{KeepsRules}
use Rattle.stats_file.specs.declared.types.StatsFile.{StatsFile}
use Rattle.table_files.specs.Stage.{table_at}
use Rattle.table_files.specs.TableFile.{rows_in}
use Rattle.prepared_runs.specs.Appending.{append_run, grown_stage, rows_run, section_stage, stats_run}
use Rattle.safebound_words.specs.declared.command.NewRows.{NewRows}
use Rattle.prepared_runs.specs.StatsFiles.{stats_stage}
use Rattle.prepared_runs.specs.RunOutcome.{Appended, AppendedRows, RunOutcome, StandsAfterAppend}
use Rattle.prepared_runs.proofs.StatsFileRuns.{stats_keep}

pub then_ok : {A B : Type 0} (P : A → Type 0) (Q : B → Type 0) (r : Result A Refusal) (f : A → Result B Refusal) → IfOk r P → ((x : A) → P x → IfOk (f x) Q) → IfOk (r >>= f) Q
then_ok P Q (Ok x) f first next = next x first
then_ok P Q (Err s) f first next = tt

pub any_ok : {A B : Type 0} (Q : B → Type 0) (r : Result A Refusal) (f : A → Result B Refusal) → ((x : A) → IfOk (f x) Q) → IfOk (r >>= f) Q
any_ok Q (Ok x) f next = next x
any_ok Q (Err s) f next = tt

module _ (append : NewRows) (schema : Schema) (Q : RunOutcome → Type 0) (appended_has_Q : (made : AppendedRows) → StandsAfterAppend made → Q (Appended made)) where
  abbrev with_rows : StatsFile → ℕ → List Row → AppendedRows
  with_rows stats table rows = record { schema = schema; table = table; rows = rows; file = file_after stats table rows }

  stands : (stats : StatsFile) (table : ℕ) (rows : List Row) → KeepsRules schema stats → StandsAfterAppend (with_rows stats table rows)
  stands stats table rows keeps = record {
    before = stats;
    keeps = keeps;
    grown = refl;
    stands = λ query tables after stood has. file_still_stands stats table rows schema query tables after keeps stood has;
  }

  grown_holds : (stats : StatsFile) (table before : ℕ) (rows : List Row) → KeepsRules schema stats → IfOk (grown_stage schema stats table before rows) Q
  unfolding grown_stage
  grown_holds stats table before rows keeps = elim (cases_Bool (nat_le (before + length rows) most_rows)) [
    | inl few ↦ rw few (appended_has_Q (with_rows stats table rows) (stands stats table rows keeps))
    | inr many ↦ rw many tt
  ]

  rows_hold : (stats : StatsFile) (table before : ℕ) (files : Files) → KeepsRules schema stats → IfOk (rows_run append.rows_file schema stats table before files) Q
  unfolding rows_run
  rows_hold stats table before files keeps =
      any_ok Q (rows_in table (table_at schema table) append.rows_file files) (grown_stage schema stats table before) (λ rows. grown_holds stats table before rows keeps)

  stats_hold : (stats : StatsFile) (files : Files) → KeepsRules schema stats → IfOk (stats_run append schema stats files) Q
  unfolding stats_run
  stats_hold stats files keeps =
      any_ok Q (section_stage append.table schema stats) (λ section. rows_run append.rows_file schema stats section.table section.rows files)
      (λ section. rows_hold stats section.table section.rows files keeps)

  pub append_holds : (files : Files) → IsValid schema → IfOk (append_run append schema files) Q
  unfolding append_run
  append_holds files valid =
      then_ok (KeepsRules schema) Q (stats_stage append.stats_file schema files) (λ stats. stats_run append schema stats files)
      (stats_keep append.stats_file schema files valid) (λ stats keeps. stats_hold stats files keeps)
