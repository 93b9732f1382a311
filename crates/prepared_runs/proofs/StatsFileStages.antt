-- Each function on statistics files does what its stage of the verdict requires.
use Rattle.std.proofs.Common.{◌≡◌, ◌⊎◌, ℕ, inl, inr, List, Option, None, Result, Ok, Err, ap, sym, ◌∙◌, subst}
use Rattle.std.specs.Prelude.{IfErr, IfOk}
use Rattle.base_io.specs.Files.{Files}
use Rattle.csv_tables.specs.Rows.{Row}
use Rattle.base_io.specs.Devices.{Reading}
use Rattle.stats_file_bounds.specs.Bounds.{scan_bounds_of_file, set_bounds_of_file}
use Rattle.stats_file_bounds.specs.Entries.{IsNeedCause}
use Rattle.stats_file_bounds.specs.Found.{first_missing}
use Rattle.stats_file_bounds.specs.declared.errors.NeedError.{NeedError}
use Rattle.stats_file_bounds.specs.declared.errors.NeedError.TheVariants as need
use Rattle.planning.specs.HasBounds.{HasBounds}
use Rattle.planning.specs.declared.known.QueryBounds.{QueryBounds}
use Rattle.outcomes.specs.Errors.{stats_failure, stats_refusal}
use Rattle.outcomes.specs.Reads.{◌>>=◌, AtFile, Reads, StopsBy, mapped, with_refusal}
use Rattle.outcomes.specs.declared.failure.Failure.{Failure}
use Rattle.outcomes.specs.declared.failure.Failure.TheVariants as failure
use Rattle.outcomes.specs.declared.names.FileId.{FileId}
use Rattle.outcomes.specs.declared.names.FileId.TheVariants as file
use Rattle.outcomes.proofs.ReadFacts.{then_gives, then_stops, then_fails}
use Rattle.outcomes.specs.declared.refusal.Refusal.{Refusal}
use Rattle.query_types.specs.declared.types.Query.{Query}
use Rattle.schema_types.specs.Validity.{IsValid}
use Rattle.schema_types.specs.declared.types.Schema.{Schema}
use Rattle.stats_answers.specs.StatsTexts.{stats_answer}
use Rattle.stats_answers.proofs.StatsAnswers as stats
use Rattle.stats_file.specs.Answers.{IsAllowedResult}
use Rattle.stats_file.specs.declared.types.StatsError.{StatsError}
use Rattle.stats_file.specs.declared.types.StatsError.TheVariants as stats_error
use Rattle.stats_file.specs.declared.types.StatsFile.{StatsFile}
use Rattle.stats_reading.specs.Names.{HasByteColumns}
use Rattle.table_files.specs.Stage.{tables_stage}
use Rattle.table_files.specs.TableFile.{read}
use Rattle.safebound_words.specs.declared.command.QueryTask.TheVariants as query_tasks
use Rattle.prepared_runs.specs.StatsFiles.{made_from_file, need_failure, plan_from_file_asked, stats_file_plan_stage, stats_of_text, stats_stage, stats_file_of_tables, unless_missing}
use Rattle.prepared_runs.specs.RunOutcome.{RunOutcome}
use Rattle.prepared_runs.specs.Shapes.{answer_of, planned_within}
use Rattle.prepared_runs.specs.PreparedRun.{plan_from}
use Rattle.prepared_runs.specs.Verdict.{query_task_run}
use Rattle.prepared_runs.specs.declared.stats_files.PreparedStatsFilePlan.{PreparedStatsFilePlan}
use Rattle.prepared_runs.proofs.Answered.{same_value}
use Rattle.safebound_words.specs.declared.command.PlanTerms.{PlanTerms}

-- ---- the file, from its bytes

module _ {store : Reading} (name : List ℕ) (schema : Schema) where
  pub stats_stops : (e : Failure) → Reads store (read file.Stats 67108864 name) (AtFile file.Stats) (Err e) → Reads store (stats_stage name schema) (AtFile file.Stats) (Err e)
  unfolding stats_stage
  stats_stops e h = then_stops (read file.Stats 67108864 name) (λ text files. stats_of_text schema text) store (AtFile file.Stats) (AtFile file.Stats) e (λ files id at. at) h

  pub stats_spelled : (text slice : List ℕ) (stats : StatsFile) → slice ≡ text → stats_answer schema slice ≡ Ok stats
      → Reads store (read file.Stats 67108864 name) (AtFile file.Stats) (Ok text) → Reads store (stats_stage name schema) (AtFile file.Stats) (Ok stats)
  unfolding stats_stage
  stats_spelled text slice stats same answer h =
      then_gives store (read file.Stats 67108864 name) (stats_of_text schema) (AtFile file.Stats) (AtFile file.Stats) text stats
      (ap (stats_of_text schema) (sym same) ∙ ap (with_refusal stats_refusal) answer) h

  pub stats_refused : (text slice : List ℕ) (e : Failure) → slice ≡ text → StopsBy (with_refusal stats_refusal (stats_answer schema slice)) e
      → Reads store (read file.Stats 67108864 name) (AtFile file.Stats) (Ok text) → Reads store (stats_stage name schema) (AtFile file.Stats) (Err e)
  unfolding stats_stage
  stats_refused text slice e same tells h =
      then_fails store (read file.Stats 67108864 name) (stats_of_text schema) (AtFile file.Stats) (AtFile file.Stats) text e
      (subst (λ (t : List ℕ). StopsBy (stats_of_text schema t) e) same tells) h

-- ---- the reader of a text returns the only answer that the text has, or NoMemory

module _ (schema : Schema) (text : List ℕ) (is : IsValid schema) (bytes : HasByteColumns schema) where
  pub stats_read : (x : StatsFile) → IsAllowedResult schema text (Ok x) → stats_answer schema text ≡ Ok x
  stats_read x answers = same_value stats_error.NoMemory (stats_answer schema text) x (stats.no_other_result schema text (Ok x) is bytes answers)

  tells : (answer : Result StatsFile StatsError) (e : StatsError) → (◌≡◌ {A = Result StatsFile StatsError} (Err e) (Err stats_error.NoMemory)) ⊎ (Err e ≡ answer)
      → StopsBy (with_refusal stats_refusal answer) (stats_failure e)
  tells answer stats_error.NoMemory h = tt
  tells answer (stats_error.Syntax line) (inl e) = cc
  tells answer (stats_error.Syntax line) (inr e) = (ap (with_refusal stats_refusal) (sym e), (λ file h. cc), (λ h. cc))
  tells answer (stats_error.Rule line) (inl e) = cc
  tells answer (stats_error.Rule line) (inr e) = (ap (with_refusal stats_refusal) (sym e), (λ file h. cc), (λ h. cc))

  pub stats_stops_by : (e : StatsError) → IsAllowedResult schema text (Err e) → StopsBy (with_refusal stats_refusal (stats_answer schema text)) (stats_failure e)
  stats_stops_by e answers = tells (stats_answer schema text) e (stats.no_other_result schema text (Err e) is bytes answers)

-- ---- the plan from a file

module _ (terms : PlanTerms) (query : Query) (stats : StatsFile) where
  abbrev plan_of : Result RunOutcome Refusal
  plan_of = planned_within terms.memory (made_from_file terms query stats) (plan_from_file_asked terms query stats)

  -- if the file has all that the query needs, the stage's result is the plan, or the refusal of a plan above the limit of memory
  pub all_there : first_missing query stats ≡ None
      → stats_file_plan_stage terms query stats ≡ planned_within terms.memory (made_from_file terms query stats) (plan_from_file_asked terms query stats)
  unfolding stats_file_plan_stage
  all_there none = ap (λ (o : Option ℕ). unless_missing o >>= λ there. plan_of) none

  -- if the file lacks something that the query needs, or memory runs out, `need_failure` is an ending of this stage
  pub need_stops_by : (e : NeedError) → IsNeedCause query stats e → StopsBy (stats_file_plan_stage terms query stats) (need_failure e)
  unfolding stats_file_plan_stage
  need_stops_by (need.Missing from) is = (ap (λ (o : Option ℕ). unless_missing o >>= λ there. plan_of) is, (λ file h. cc), (λ h. cc))
  need_stops_by need.NoMemory is = tt

  -- the plan by the bounds `known` is the plan that is asked for, if `known` has the file's bounds
  pub asked_known : (known : QueryBounds) → HasBounds (set_bounds_of_file query stats) (scan_bounds_of_file query stats) known
      → answer_of terms.shape known.sets known.scans terms.budget ≡ plan_from_file_asked terms query stats
  asked_known known gives =
      ap (λ (s : List ℕ). answer_of terms.shape s known.scans terms.budget) gives.sets
      ∙ ap (λ (s : List ℕ). answer_of terms.shape (set_bounds_of_file query stats) s terms.budget) gives.scans

-- ---- the file of a query's tables

module _ {store : Reading} (accuracy : ℕ) (schema : Schema) (query : Query) (C : Files → FileId → Type 0) where
  pub file_stops : (e : Failure) → Reads store (tables_stage schema query.from) C (Err e) → Reads store (query_task_run (query_tasks.WriteStats accuracy) schema query) C (Err e)
  file_stops e h = then_stops (tables_stage schema query.from) (λ rows files. Ok (stats_file_of_tables schema query rows accuracy)) store C C e (λ files id at. at) h

  pub file_wants : (rows : List (List Row)) → Reads store (tables_stage schema query.from) C (Ok rows) → Reads store (query_task_run (query_tasks.WriteStats accuracy) schema query) C (Err failure.NoMemory)
  file_wants rows h = then_fails store (tables_stage schema query.from) (λ rows. Ok (stats_file_of_tables schema query rows accuracy)) C C rows failure.NoMemory tt h

  pub file_made : (rows : List (List Row)) (outcome : RunOutcome) → outcome ≡ stats_file_of_tables schema query rows accuracy → Reads store (tables_stage schema query.from) C (Ok rows)
      → Reads store (query_task_run (query_tasks.WriteStats accuracy) schema query) C (Ok outcome)
  file_made rows outcome is h =
      then_gives store (tables_stage schema query.from) (λ rows. Ok (stats_file_of_tables schema query rows accuracy)) C C rows outcome (ap (λ (o : RunOutcome). Ok o) (sym is)) h

-- ---- a plan from a statistics file

module _ {store : Reading} (name : List ℕ) (terms : PlanTerms) (schema : Schema) (query : Query) (C : Files → FileId → Type 0) where
  pub plan_stops : (e : Failure) → Reads store (stats_stage name schema) C (Err e) → Reads store (query_task_run (query_tasks.PlanFromStats name terms) schema query) C (Err e)
  plan_stops e h = then_stops (stats_stage name schema) (λ stats files. stats_file_plan_stage terms query stats) store C C e (λ files id at. at) h

  pub plan_ran : (stats : StatsFile) (result : Result PreparedStatsFilePlan Failure) → IfOk result (λ made. stats_file_plan_stage terms query stats ≡ Ok (plan_from made))
      → IfErr result (StopsBy (stats_file_plan_stage terms query stats)) → Reads store (stats_stage name schema) C (Ok stats)
      → Reads store (query_task_run (query_tasks.PlanFromStats name terms) schema query) C (mapped plan_from result)
  plan_ran stats (Ok made) is tells h = then_gives store (stats_stage name schema) (stats_file_plan_stage terms query) C C stats (plan_from made) is h
  plan_ran stats (Err e) is tells h = then_fails store (stats_stage name schema) (stats_file_plan_stage terms query) C C stats e tells h
