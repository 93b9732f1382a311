-- In every run of the verdict, no bound is too low, the printed rows are the answer, and the bytes are within the limit of memory.
use Rattle.std.proofs.Common.{◌≡◌, ℕ, ◌≤◌, List, Result, Ok, Err, length, map, get_or, refl, ap, sym, ◌∙◌, subst, arith}
use Rattle.std.specs.Prelude.{IfOk, IsPermutation}
use Rattle.std.proofs.Math.Seq.{take-length}
use Rattle.base_io.specs.Files.{Files}
use Rattle.csv_tables.specs.Rows.{Row}
use Rattle.schema_types.specs.Validity.{IsValid}
use Rattle.schema_types.specs.declared.types.Schema.{Schema}
use Rattle.stats_file.specs.Rules.{KeepsRules}
use Rattle.query_types.specs.Named.{NamesItsEntries}
use Rattle.query_types.specs.Validity.{IsQueryOf}
use Rattle.query_types.specs.declared.types.Query.{Query}
use Rattle.sql_meaning.specs.Answers.{answer, conjuncts_of, entries_of, selected}
use Rattle.sql_meaning.specs.Levels.{level_of, row_in}
use Rattle.sql_meaning.specs.Tables.{row_counts}
use Rattle.level_bounds.specs.Orders.{IsOrderOfSet}
use Rattle.level_bounds.proofs.LastLevel.{last_level_is_answer}
use Rattle.text_answers.specs.QueryTexts.{query_answer}
use Rattle.text_answers.specs.SchemaTexts.{schema_answer}
use Rattle.text_answers.proofs.QueryAnswers as queries
use Rattle.text_answers.proofs.SchemaAnswers as schemas
use Rattle.outcomes.specs.Errors.{plan_refusal, query_refusal, schema_refusal}
use Rattle.outcomes.specs.Reads.{with_refusal}
use Rattle.outcomes.specs.declared.names.FileId.TheVariants as file
use Rattle.outcomes.specs.declared.refusal.Refusal.{Refusal}
use Rattle.table_files.specs.EntryTables.{tables_in}
use Rattle.table_files.specs.Stage.{tables_stage}
use Rattle.table_files.specs.TableFile.{read}
use Rattle.join_steps.specs.Lists.{list_at, scans_of, list_sizes}
use Rattle.join_steps.proofs.WholeScans.{scans_of_at, list_sizes_at}
use Rattle.reduced_scans.specs.Rounds.{reduced_of}
use Rattle.prepared_runs.specs.AcceptedQuery.{AcceptedQuery, BoundsHold, IsOverReducedScans, IsOverWholeScans, RowsAreTheAnswer, tables}
use Rattle.safebound_words.specs.InRange.{HasRanges, IsInRange, WorkHasRanges}
use Rattle.safebound_words.specs.declared.command.SchemaTask.{SchemaTask}
use Rattle.safebound_words.specs.declared.command.Command.{Command}
use Rattle.safebound_words.specs.declared.command.QueryTask.{QueryTask}
use Rattle.safebound_words.specs.declared.command.SchemaTask.TheVariants as schema_tasks
use Rattle.safebound_words.specs.declared.command.QueryTask.TheVariants as query_tasks
use Rattle.prepared_runs.specs.StatsFiles.{stats_stage}
use Rattle.prepared_runs.specs.Limits.{IsWithinLimit}
use Rattle.prepared_runs.specs.RunOutcome.{Appended, StatsMade, KeepsItsLimit, NoBoundIsTooLow, RunOutcome, Planned, PlannedFromStats, PrintsTheAnswer}
use Rattle.prepared_runs.specs.Shapes.{joined_entries, part_rows}
use Rattle.prepared_runs.specs.Sources.{SourceNeeds, BoundsAndLists, lists_by, scans_by, bounds_and_lists_by}
use Rattle.prepared_runs.specs.Standing.{IsSource, LoseNoRow}
use Rattle.safebound_words.specs.declared.command.ListSource.{ListSource}
use Rattle.safebound_words.specs.declared.command.ListSource.TheVariants as sources
use Rattle.prepared_runs.specs.Verdict.{schema_task_run, command_run, command_stage, plan_asked, plan_stage, query_of_text, query_stage, accepted_query, schema_of_text, schema_stage, verdict, query_task_run}
use Rattle.join_graph.proofs.FromEntries.{names_its_entries}
use Rattle.prepared_runs.proofs.AppendRuns.{any_ok, append_holds, then_ok}
use Rattle.prepared_runs.proofs.StatsFileRuns.{filed_plan_holds, filed_stands, stats_keep}
use Rattle.plans.specs.TreePlans.{IsTreePlan}
use Rattle.plans.specs.declared.bushy.BushyPlan.{BushyPlan}
use Rattle.tree_rows.specs.Memory.{tree_bytes}
use Rattle.safebound_words.specs.declared.command.PlanWork.{PlanWork}
use Rattle.prepared_runs.proofs.LimitFacts.{within_so}
use Rattle.prepared_runs.proofs.CommandFacts.{has_ranges}
use Rattle.prepared_runs.proofs.ShapeFacts.{Fits, order_is, plan_fits, scans_are_given, shaped_is_tree, part_over_tables}
use Rattle.prepared_runs.proofs.KeyFacts.{needs_read}
use Rattle.prepared_runs.proofs.SourceFacts.{stand}

is_ok : {A : Type 0} (r : Result A Refusal) → IfOk r (λ x. r ≡ Ok x)
is_ok (Ok x) = refl
is_ok (Err s) = tt

ok_with_refusal : {A E : Type 0} (P : A → Type 0) (f : E → Refusal) (r : Result A E) → ((x : A) → r ≡ Ok x → P x) → IfOk (with_refusal f r) P
ok_with_refusal P f (Ok x) h = h x refl
ok_with_refusal P f (Err e) h = tt

query_ok : (name : List ℕ) (schema : Schema) (files : Files) → IfOk (query_stage name schema files) (IsQueryOf schema)
unfolding query_stage
query_ok name schema files =
    any_ok (IsQueryOf schema) (read file.Query 1048576 name files) (query_of_text schema)
    (λ text. ok_with_refusal (IsQueryOf schema) query_refusal (query_answer schema text) (λ query e. queries.of_schema schema text query e))

pub schema_ok : (name : List ℕ) (files : Files) → IfOk (schema_stage name files) IsValid
unfolding schema_stage
schema_ok name files =
    any_ok IsValid (read file.Schema 1048576 name files) schema_of_text
    (λ text. ok_with_refusal IsValid schema_refusal (schema_answer text) (λ schema e. schemas.valid text schema e))

pub record IsRun (run : AcceptedQuery) : Type 0 where
  pub own : NamesItsEntries run.query
  pub lists : run.lists ≡ lists_by run.source run.query (tables run)
  pub rows : LoseNoRow run.query (tables run) run.lists
  pub tree : IsTreePlan (length run.query.from) run.plan
  pub bounds : Fits run.query (tables run) run.lists run.shape run.plan
  pub limit : IsWithinLimit run.memory (tree_bytes run.plan)
  pub scans : (accuracy : ℕ) × ((entry : ℕ) → get_or run.plan.scans entry 0 ≡ get_or (scans_by run.source run.query (tables run) accuracy) entry 0)

abbrev IsSound : RunOutcome → Type 0
IsSound (Planned run) = IsRun run
IsSound (StatsMade made_stats) = NoBoundIsTooLow (StatsMade made_stats)
IsSound (PlannedFromStats made) = NoBoundIsTooLow (PlannedFromStats made) × KeepsItsLimit (PlannedFromStats made)
IsSound (Appended made) = NoBoundIsTooLow (Appended made)

plan_ok : (task : PlanWork) (schema : Schema) (query : Query) (rows : List (List Row)) → SourceNeeds task.source schema query (tables_in rows) → IsInRange task → 1 ≤ length query.from → length query.from ≤ 12 → NamesItsEntries query → IfOk (plan_stage task schema query rows) IsSound
unfolding plan_stage
plan_ok task schema query rows needs range some few own =
    then_ok IsMade IsSound (with_refusal plan_refusal (plan_asked task schema query (tables_in rows))) _
    (ok_with_refusal IsMade plan_refusal (plan_asked task schema query (tables_in rows)) made_ok)
    (λ plan is. within_so IsSound task.terms.memory (tree_bytes plan) (Planned (accepted_query task query rows plan)) is)
  where
    IsMade : BushyPlan → Type 0
    IsMade plan = IsWithinLimit task.terms.memory (tree_bytes plan) → IsRun (accepted_query task query rows plan)

    made_ok : (plan : BushyPlan) → plan_asked task schema query (tables_in rows) ≡ Ok plan → IsMade plan
    made_ok plan made within =
        let given : BoundsAndLists = bounds_and_lists_by task.source schema query (tables_in rows) in
        let is : IsSource query (tables_in rows) given = stand query (tables_in rows) schema task.source needs in
        let fits = plan_fits query (tables_in rows) given is task.accuracy task.terms.budget some few task.terms.shape plan made range.budget in
        record {
          own = own;
          lists = refl;
          rows = is.rows;
          limit = within;
          tree = shaped_is_tree (length query.from) task.terms.shape plan some few fits.is_shaped;
          bounds = fits;
          scans = (
            task.accuracy,
            λ entry. ap (λ (s : List ℕ). get_or s entry 0) (scans_are_given query (tables_in rows) given is task.accuracy task.terms.budget some few task.terms.shape plan made),
          );
        }

query_task_ok : (work : QueryTask) (schema : Schema) (query : Query) (files : Files) → WorkHasRanges work → IsValid schema → IsQueryOf schema query → IfOk (query_task_run work schema query files) IsSound
query_task_ok (query_tasks.Plan task) schema query files range valid of =
    then_ok (λ rows. tables_stage schema query.from files ≡ Ok rows) IsSound (tables_stage schema query.from files) _ (is_ok (tables_stage schema query.from files))
    (λ rows is. plan_ok task schema query rows (needs_read task.source schema query files rows of is) range (omega (arith, of.has_entries)) of.entries_within_limit (names_its_entries schema query of))
query_task_ok (query_tasks.WriteStats accuracy) schema query files range valid of =
    then_ok (λ rows. tables_stage schema query.from files ≡ Ok rows) IsSound (tables_stage schema query.from files) _ (is_ok (tables_stage schema query.from files))
    (λ rows is. filed_stands schema query files accuracy rows is)
query_task_ok (query_tasks.PlanFromStats name terms) schema query files range valid of =
    then_ok (KeepsRules schema) IsSound (stats_stage name schema files) _ (stats_keep name schema files valid)
    (λ stats keeps. filed_plan_holds schema query of stats keeps terms range IsSound (λ plan holds within. (holds, within)))

schema_task_ok : (schema_task : SchemaTask) (schema : Schema) (files : Files) → HasRanges schema_task → IsValid schema → IfOk (schema_task_run schema_task schema files) IsSound
schema_task_ok (schema_tasks.Query name work) schema files range valid =
    then_ok (IsQueryOf schema) IsSound (query_stage name schema files) _ (query_ok name schema files)
    (λ query of. query_task_ok work schema query files range valid of)
schema_task_ok (schema_tasks.Append append) schema files range valid = append_holds append schema IsSound (λ made stands. stands) files valid

command_ok : (command : Command) (files : Files) → HasRanges command.schema_task → IfOk (command_run command files) IsSound
unfolding command_run
command_ok command files range =
    then_ok IsValid IsSound (schema_stage command.schema_file files) _ (schema_ok command.schema_file files)
    (λ schema valid. schema_task_ok command.schema_task schema files range valid)

verdict_ok : (words : List (List ℕ)) (files : Files) → IfOk (verdict words files) IsSound
unfolding verdict
verdict_ok words files =
    then_ok (λ command. command_stage words ≡ Ok command) IsSound (command_stage words) _ (is_ok (command_stage words)) (λ command is. command_ok command files (has_ranges words command is))

-- ---- two sentences of the headline: no bound is too low, and the printed rows are the answer

module _ (run : AcceptedQuery) (is : IsRun run) where
  abbrev lists_from : ListSource → List (List ℕ)
  lists_from source = lists_by source run.query (tables run)

  of_whole : run.lists ≡ scans_of run.query (tables run) → IsOverWholeScans run
  of_whole whole = record {
    scans = λ entry low. ap (λ (l : List (List ℕ)). list_at l entry) whole ∙ scans_of_at run.query (tables run) entry low;
    parts = λ k low.
        ap (λ (l : List (List ℕ)). part_rows run.query (tables run) l run.shape run.plan k) whole
        ∙ part_over_tables run.query (tables run) run.shape run.plan is.bounds.is_shaped k low;
  }

  of_columns : run.source ≡ sources.Columns → IsOverWholeScans run
  unfolding lists_by
  of_columns from' = of_whole (is.lists ∙ ap lists_from from')

  of_keyed : run.source ≡ sources.Keyed → IsOverWholeScans run
  unfolding lists_by
  of_keyed from' = of_whole (is.lists ∙ ap lists_from from')

  of_reduced_scans : (source : ListSource) → run.source ≡ source → lists_by source run.query (tables run) ≡ reduced_of run.query (tables run)
      → scans_by source run.query (tables run) is.scans.0 ≡ list_sizes run.query (reduced_of run.query (tables run)) → IsOverReducedScans run
  of_reduced_scans source from' rows sizes =
      let reduced : run.lists ≡ reduced_of run.query (tables run) = is.lists ∙ ap lists_from from' ∙ rows in
      record {
        scans = reduced;
        exact = λ entry low.
            is.scans.1 entry ∙ ap (λ (source : ListSource). get_or (scans_by source run.query (tables run) is.scans.0) entry 0) from'
            ∙ ap (λ (s : List ℕ). get_or s entry 0) sizes
            ∙ list_sizes_at run.query (reduced_of run.query (tables run)) entry low ∙ ap (λ (l : List (List ℕ)). length (list_at l entry)) (sym reduced);
      }

  of_reduced : run.source ≡ sources.Reduced → IsOverReducedScans run
  unfolding lists_by scans_by
  of_reduced from' = of_reduced_scans sources.Reduced from' refl refl

  of_counted : run.source ≡ sources.Counted → IsOverReducedScans run
  unfolding lists_by scans_by
  of_counted from' = of_reduced_scans sources.Counted from' refl refl

  run_bounds : BoundsHold run
  run_bounds = record {
    plan = is.bounds.is_shaped;
    scans = is.bounds.scans;
    parts = is.bounds.parts;
    of_columns = of_columns;
    of_keyed = of_keyed;
    of_reduced = of_reduced;
    of_counted = of_counted;
  }

  run_rows : RowsAreTheAnswer run
  run_rows =
      let its : List ℕ = joined_entries run.plan in
      let order : IsOrderOfSet (entries_of run.query) its = order_is run.query run.plan is.tree in
      subst (λ (level : List (List ℕ)). IsPermutation (map (λ choice. selected run.query (tables run) (row_in its choice)) level) (answer run.query (tables run)))
      (sym (is.rows.last is.own its order
      ∙ ap (λ (placed : List ℕ). level_of (conjuncts_of run.query (tables run)) (row_counts (tables run)) placed) (take-length its)))
      (last_level_is_answer run.query (tables run) its is.own order)

no_bound : (outcome : RunOutcome) → IsSound outcome → NoBoundIsTooLow outcome
no_bound (Planned run) is = run_bounds run is
no_bound (StatsMade made_stats) is = is
no_bound (PlannedFromStats made) is = is.0
no_bound (Appended made) is = is

prints : (outcome : RunOutcome) → IsSound outcome → PrintsTheAnswer outcome
prints (Planned run) is = run_rows run is
prints (StatsMade made_stats) is = tt
prints (PlannedFromStats made) is = tt
prints (Appended made) is = tt

keeps : (outcome : RunOutcome) → IsSound outcome → KeepsItsLimit outcome
keeps (Planned run) is = is.limit
keeps (StatsMade made_stats) is = tt
keeps (PlannedFromStats made) is = is.1
keeps (Appended made) is = tt

so : (P : RunOutcome → Type 0) → ((outcome : RunOutcome) → IsSound outcome → P outcome) → (r : Result RunOutcome Refusal) → IfOk r IsSound → IfOk r P
so P holds (Ok outcome) is = holds outcome is
so P holds (Err s) is = tt

pub bounds_hold : (words : List (List ℕ)) (files : Files) → IfOk (verdict words files) NoBoundIsTooLow
bounds_hold words files = so NoBoundIsTooLow no_bound (verdict words files) (verdict_ok words files)

pub rows_are_the_answer : (words : List (List ℕ)) (files : Files) → IfOk (verdict words files) PrintsTheAnswer
rows_are_the_answer words files = so PrintsTheAnswer prints (verdict words files) (verdict_ok words files)

pub limits_hold : (words : List (List ℕ)) (files : Files) → IfOk (verdict words files) KeepsItsLimit
limits_hold words files = so KeepsItsLimit keeps (verdict words files) (verdict_ok words files)
