-- The bounds of a plan from a statistics file hold for all tables that the file is known to describe.
use Rattle.std.proofs.Common.{◌≡◌, ℕ, ◌<◌, ◌==◌, ◌++◌, true, false, List, [], length, get_or, Option, None, Some, Ok, refl, ap, sym, ◌∙◌, subst, arith}
use Rattle.std.specs.Prelude.{unwrap_or}
use Rattle.std.proofs.lemmas.Bool.{eq-eqb}
use Rattle.std.proofs.lemmas.List.{get_or-map}
use Rattle.std.proofs.lemmas.Option.{slice_get-get_or}
use Rattle.base_io.specs.Files.{Files}
use Rattle.csv_tables.specs.Rows.{Row}
use Rattle.stats_file_bounds.proofs.Finding.{none_passes}
use Rattle.stats_file_bounds.proofs.Telling.{IsThere, is_there}
use Rattle.stats_file_bounds.specs.Found.{first_missing, is_missing}
use Rattle.stats_file_of_query.proofs.SameSections.{first_is}
use Rattle.stats_file_of_query.proofs.Standing.{share_rows}
use Rattle.stats_file_of_query.specs.Files.{first_entry}
use Rattle.stats_file_of_query.specs.Needs.{table_of}
use Rattle.stats_file_of_query.specs.Standing.{ShareRows, StandsFor, section_of}
use Rattle.join_steps.specs.Lists.{scans_of}
use Rattle.outcomes.specs.Errors.{plan_refusal}
use Rattle.outcomes.specs.Reads.{with_refusal}
use Rattle.query_types.specs.Validity.{IsQueryOf}
use Rattle.query_types.specs.declared.types.Query.{Query}
use Rattle.query_types.specs.declared.types.Source.{Source}
use Rattle.safebound_words.specs.Commands.{over_query}
use Rattle.safebound_words.specs.declared.command.SchemaTask.TheVariants as schema_tasks
use Rattle.safebound_words.specs.declared.command.Command.{Command}
use Rattle.safebound_words.specs.declared.command.QueryTask.TheVariants as query_tasks
use Rattle.schema_types.specs.declared.types.Schema.{Schema}
use Rattle.sql_meaning.specs.Tables.{Tables, tables_of}
use Rattle.stats_file.specs.declared.types.StatsFile.{StatsFile}
use Rattle.table_files.specs.Stage.{no_table, table_at, table_rows}
use Rattle.table_files.proofs.EntryLaws.{two_steps}
use Rattle.table_files.proofs.StagedFiles.{table_ok, ok_without_refusal}
use Rattle.prepared_runs.proofs.LimitFacts.{within_ok}
use Rattle.prepared_runs.proofs.ShapeFacts.{plan_over_fits}
use Rattle.prepared_runs.specs.StatsFiles.{made_from_file, plan_from_file_asked, stats_file_plan_stage, stats_stage, unless_missing}
use Rattle.prepared_runs.specs.Limits.{IsWithinLimit, within_limit}
use Rattle.prepared_runs.specs.Shapes.{IsPlanOver, planned_within}
use Rattle.plans.specs.declared.bushy.BushyPlan.{BushyPlan}
use Rattle.tree_rows.specs.Memory.{tree_bytes}
use Rattle.safebound_words.specs.declared.command.PlanTerms.{PlanTerms}
use Rattle.prepared_runs.specs.RunOutcome.{PlanFromStatsFile, BoundsHoldForItsTables, NoBoundIsTooLow, RunOutcome}
use Rattle.prepared_runs.specs.Verdict.{schema_task_run, command_run, query_stage, schema_stage, query_task_run}
use Rattle.safebound_top.proofs.Promises.{asks, query_of_schema, text_prints}
use Rattle.safebound_top.specs.Call.{Grew}
use Rattle.safebound_top.specs.Headline.{GrewWhole}
use Rattle.safebound_top.specs.OutcomeTexts.{notes_text}
use Rattle.safebound_top.specs.Promise.{AreInFile, PrintsPlan}
use Rattle.safebound_top.specs.Texts.{plan_text_of}
use Rattle.safebound_laws.specs.FileCalls.{AppendCall, EachReadsTheBytesBefore, PlanCall, PlannedFrom, StatsCall, WroteStats, last_bytes}
use Rattle.safebound_laws.specs.OtherQueries.{HaveSameRows}
use Rattle.safebound_laws.specs.FilePlans.{AddedRows, GrownPlanHolds, IsOver, PlanHolds, rows_added_to, with_added_rows}
use Rattle.safebound_laws.proofs.DoneRun.{byte_columns, done_run_of_call, is_valid, same_schema, stats_read_are_written}
use Rattle.safebound_laws.proofs.KnownBytes.{FromAppends, FromStats, AreBytesOfStandingFile, from_appends, from_stats}
use Rattle.safebound_laws.proofs.OtherQueries.{stands_for_other}

-- ---- the stages of a plan from a file

nothing_is_missing : (o : Option ℕ) (u : Unit {0}) → unless_missing o ≡ Ok u → o ≡ None
nothing_is_missing None u e = refl
nothing_is_missing (Some from) u e = absurd (cc)

pub record PlanMade (schema_file query_file stats_file : List ℕ) (terms : PlanTerms) (files : Files) (outcome : RunOutcome) : Type 0 where
  pub schema : Schema
  pub schema_is : schema_stage schema_file files ≡ Ok schema
  pub query : Query
  pub query_is : query_stage query_file schema files ≡ Ok query
  pub stats : StatsFile
  pub stats_is : stats_stage stats_file schema files ≡ Ok stats
  pub there : first_missing query stats ≡ None
  pub plan : BushyPlan
  pub planned : plan_from_file_asked terms query stats ≡ Ok plan
  pub within : IsWithinLimit terms.memory (tree_bytes plan)
  pub is : made_from_file terms query stats plan ≡ outcome

plan_made : (schema_file query_file stats_file : List ℕ) (terms : PlanTerms) (files : Files) (outcome : RunOutcome)
    → command_run (over_query None schema_file query_file (query_tasks.PlanFromStats stats_file terms)) files ≡ Ok outcome
    → PlanMade schema_file query_file stats_file terms files outcome
unfolding command_run stats_file_plan_stage
plan_made schema_file query_file stats_file terms files outcome ran =
    let work = query_tasks.PlanFromStats stats_file terms in
    let first = two_steps (schema_stage schema_file files) (λ s. schema_task_run (schema_tasks.Query query_file work) s files) outcome ran in
    let second = two_steps (query_stage query_file first.0 files) (λ q. query_task_run work first.0 q files) outcome first.2 in
    let third = two_steps (stats_stage stats_file first.0 files) (stats_file_plan_stage terms second.0) outcome second.2 in
    let there = two_steps (unless_missing (first_missing second.0 third.0))
    (λ u. planned_within terms.memory (made_from_file terms second.0 third.0) (plan_from_file_asked terms second.0 third.0)) outcome third.2 in
    let last = two_steps (with_refusal plan_refusal (plan_from_file_asked terms second.0 third.0))
    (λ plan. within_limit terms.memory (tree_bytes plan) (made_from_file terms second.0 third.0 plan)) outcome there.2 in
    let kept = within_ok terms.memory (tree_bytes last.0) (made_from_file terms second.0 third.0 last.0) outcome last.2 in
    record {
      schema = first.0;
      schema_is = first.1;
      query = second.0;
      query_is = second.1;
      stats = third.0;
      stats_is = third.1;
      there = nothing_is_missing (first_missing second.0 third.0) there.0 there.1;
      plan = last.0;
      planned = ok_without_refusal plan_refusal (plan_from_file_asked terms second.0 third.0) last.0 last.1;
      within = kept.1;
      is = kept.0;
    }

-- ---- the rows of another query's entries

-- an entry of the query `other` gets the rows of the first entry of `query` that has the same table
abbrev pub tables_for_other : Query → Tables → Query → Tables
tables_for_other query tables other place = tables (unwrap_or (first_entry query (table_of other place)) 0)

module _ (query : Query) (tables : Tables) (share : ShareRows query tables) (other : Query) where
  pub same_rows : HaveSameRows query tables other (tables_for_other query tables other)
  same_rows entry place low other_tables same = by (first_entry query (table_of other place)) refl
    where
      by : (found : Option ℕ) → first_entry query (table_of other place) ≡ found → tables entry ≡ tables (unwrap_or (first_entry query (table_of other place)) 0)
      by None is =
          let fails : (table_of query entry == table_of other place) ≡ false =
          none_passes (λ e. table_of query e == table_of other place) 0 (length query.from) is entry (omega arith) (omega (arith, low)) in
          let passes : (table_of query entry == table_of other place) ≡ true = eq-eqb (table_of query entry) (table_of other place) same in
          absurd (let no : true ≡ false = sym passes ∙ fails in cc)
      by (Some first) is =
          let first_facts = first_is query (table_of other place) first is in
          share entry first low first_facts.0 (same ∙ sym first_facts.1) ∙ ap (λ (o : Option ℕ). tables (unwrap_or o 0)) (sym is)

added_rows_stay_same : (query : Query) (tables : Tables) (other : Query) (other_tables : Tables) (added : List AddedRows) → HaveSameRows query tables other other_tables
    → HaveSameRows query (with_added_rows query tables added) other (with_added_rows other other_tables added)
added_rows_stay_same query tables other other_tables added have entry place low within same =
    ap (λ (rows : List Row). rows ++ rows_added_to (table_of query entry) added) (have entry place low within same) ∙ ap (λ (t : ℕ). other_tables place ++ rows_added_to t added) same

entry_rows_are_in_file : (files : Files) (schema : Schema) (query : Query) (entry : ℕ) (rows : List Row) → IsQueryOf schema query → entry < length query.from
    → table_rows schema (table_of query entry) files ≡ Ok rows → AreInFile files schema query entry rows
entry_rows_are_in_file files schema query entry rows of low staged =
    let none : Source = record { table = 0; alias = [] } in
    let source : Source = get_or query.from entry none in
    let number : table_of query entry ≡ source.table = get_or-map (λ (s : Source). s.table) query.from entry none 0 low in
    let read = table_ok source.table (table_at schema source.table) files rows (ap (λ (n : ℕ). table_rows schema n files) (sym number) ∙ staged) in
    record {
      source = source;
      is_source = slice_get-get_or query.from entry none low;
      table = table_at schema source.table;
      is_table = slice_get-get_or schema.tables source.table no_table (of.sources entry none low);
      bytes = read.0;
      there = read.1;
      read = read.2;
    }

-- ---- the plan of a call of `plan --stats`

-- `stats` has read a query, and the statistics file is known to describe tables of this query. The plan is made from this file
module _ (made : StatsCall) (schema : Schema) (first_bytes : List ℕ) (start : FromStats made first_bytes schema) (bytes : List ℕ) (tables : Tables)
    (known : AreBytesOfStandingFile schema start.query bytes tables) (planned : PlanCall) (from : PlannedFrom schema bytes planned) where
  abbrev command : Command
  command = over_query None planned.schema_file planned.query_file (query_tasks.PlanFromStats planned.stats_file planned.terms)

  pub made_run : PlanMade planned.schema_file planned.query_file planned.stats_file planned.terms planned.files (done_run_of_call planned.call command planned.files from.done).outcome
  made_run =
      plan_made planned.schema_file planned.query_file planned.stats_file planned.terms planned.files (done_run_of_call planned.call command planned.files from.done).outcome
      (done_run_of_call planned.call command planned.files from.done).ran

  same : made_run.schema ≡ schema
  same = same_schema planned.files planned.schema_file schema from.declares made_run.schema made_run.schema_is

  pub stats_same : made_run.stats ≡ known.file
  stats_same =
      stats_read_are_written planned.stats_file schema planned.files made_run.stats known.file (is_valid planned.files planned.schema_file schema from.declares)
      (byte_columns planned.files planned.schema_file schema from.declares) known.keeps (from.there ∙ ap (λ (s : List ℕ). Some s) known.is)
      (subst (λ (s : Schema). stats_stage planned.stats_file s planned.files ≡ Ok made_run.stats) same made_run.stats_is)

  query_there : query_stage planned.query_file schema planned.files ≡ Ok made_run.query
  query_there = subst (λ (s : Schema). query_stage planned.query_file s planned.files ≡ Ok made_run.query) same made_run.query_is

  pub of_schema : IsQueryOf schema made_run.query
  of_schema = query_of_schema planned.query_file planned.files schema made_run.query query_there

  -- ---- the rows of the planned query's entries

  pub not_missing : (place : ℕ) → place < length made_run.query.from → is_missing made_run.query made_run.stats place ≡ false
  not_missing place low = none_passes (is_missing made_run.query made_run.stats) 0 (length made_run.query.from) made_run.there place (omega arith) (omega (arith, low))

  pub found : (place : ℕ) → place < length made_run.query.from → (first : ℕ) × (first_entry start.query (table_of made_run.query place) ≡ Some first)
  found place low =
      let there : IsThere made_run.query made_run.stats place = is_there made_run.query made_run.stats place (not_missing place low) in
      known.of (table_of made_run.query place) there.section (ap (λ (f : StatsFile). section_of f (table_of made_run.query place)) (sym stats_same) ∙ there.is)

  pub same_old : HaveSameRows start.query (tables_of start.database) made_run.query (tables_for_other start.query (tables_of start.database) made_run.query)
  same_old = same_rows start.query (tables_of start.database) (share_rows schema start.query start.database start.over) made_run.query

  rows_there : (place : ℕ) → place < length made_run.query.from → AreInFile made.files schema made_run.query place (tables_for_other start.query (tables_of start.database) made_run.query place)
  rows_there place low =
      let first = found place low in
      let at = first_is start.query (table_of made_run.query place) first.0 first.1 in
      entry_rows_are_in_file made.files schema made_run.query place (tables_for_other start.query (tables_of start.database) made_run.query place) of_schema low
      (ap (λ (t : ℕ). table_rows schema t made.files) (sym at.1) ∙ start.read first.0 at.0 ∙ ap (λ (rows : List Row). Ok rows) (same_old first.0 place at.0 low at.1))

  pub over : IsOver made planned schema made_run.query (tables_for_other start.query (tables_of start.database) made_run.query)
  over = record { asks = asks planned.query_file planned.files schema made_run.query query_there; rows = rows_there }

  -- ---- the plan's text

  abbrev pub its_plan : PlanFromStatsFile
  its_plan = record { query = made_run.query; file = made_run.stats; shape = planned.terms.shape; plan = made_run.plan; memory = planned.terms.memory }

  pub holds_for : (grown : Tables) → StandsFor made_run.query known.file grown
      → PrintsPlan planned.terms.shape planned.terms.memory made_run.query grown (scans_of made_run.query grown) (plan_text_of made_run.query.from planned.terms.shape made_run.plan planned.terms.memory)
  holds_for grown stands =
      let holds : BoundsHoldForItsTables its_plan = subst NoBoundIsTooLow (sym made_run.is) (done_run_of_call planned.call command planned.files from.done).holds in
      let plan : IsPlanOver made_run.query grown (scans_of made_run.query grown) planned.terms.shape made_run.plan = holds grown (subst (λ (f : StatsFile). StandsFor made_run.query f grown) (sym stats_same) stands) in
      text_prints planned.terms.shape planned.terms.memory made_run.query grown (scans_of made_run.query grown) made_run.plan
      (plan_over_fits made_run.query grown (scans_of made_run.query grown) planned.terms.shape made_run.plan plan) made_run.within

  pub written : Grew planned.call.notes (plan_text_of made_run.query.from planned.terms.shape made_run.plan planned.terms.memory)
  written = subst (λ (o : RunOutcome). GrewWhole planned.call.notes (notes_text o)) (sym made_run.is) (done_run_of_call planned.call command planned.files from.done).notes

-- ---- a plan from the file that `stats` wrote

module _ (schema : Schema) (bytes : List ℕ) (made : StatsCall) (planned : PlanCall) (wrote : WroteStats made schema bytes) (from : PlannedFrom schema bytes planned) where
  start : FromStats made bytes schema
  start = from_stats made schema bytes wrote

  pub plan_holds : PlanHolds made planned schema
  plan_holds =
      let s : FromStats made bytes schema = start in
      let plan = made_run made schema bytes s bytes (tables_of s.database) s.known planned from in
      let tables : Tables = tables_for_other s.query (tables_of s.database) plan.query in
      record {
        query = plan.query;
        tables = tables;
        over = over made schema bytes s bytes (tables_of s.database) s.known planned from;
        text = plan_text_of plan.query.from planned.terms.shape plan.plan planned.terms.memory;
        plan = holds_for made schema bytes s bytes (tables_of s.database) s.known planned from tables
            (stands_for_other s.query plan.query s.known.file (tables_of s.database) tables s.known.stands s.known.of
            (same_old made schema bytes s bytes (tables_of s.database) s.known planned from));
        written = written made schema bytes s bytes (tables_of s.database) s.known planned from;
      }

-- ---- a plan from the file after any number of appends

module _ (schema : Schema) (bytes : List ℕ) (made : StatsCall) (appends : List AppendCall) (planned : PlanCall) (wrote : WroteStats made schema bytes)
    (did : EachReadsTheBytesBefore schema bytes appends) (from : PlannedFrom schema (last_bytes bytes appends) planned) where
  first_stats : FromStats made bytes schema
  first_stats = from_stats made schema bytes wrote

  more : FromAppends schema first_stats.query (tables_of first_stats.database) appends (last_bytes bytes appends)
  more = from_appends schema first_stats.query bytes (tables_of first_stats.database) appends first_stats.known did

  pub grown_plan_holds : GrownPlanHolds made appends planned schema
  grown_plan_holds =
      let s : FromStats made bytes schema = first_stats in
      let last : List ℕ = last_bytes bytes appends in
      let read : Tables = tables_of s.database in
      let grown : Tables = with_added_rows s.query read more.added in
      let plan = made_run made schema bytes s last grown more.known planned from in
      let tables : Tables = tables_for_other s.query read plan.query in
      record {
        query = plan.query;
        tables = tables;
        over = over made schema bytes s last grown more.known planned from;
        added = more.added;
        adds = more.adds;
        text = plan_text_of plan.query.from planned.terms.shape plan.plan planned.terms.memory;
        plan = holds_for made schema bytes s last grown more.known planned from (with_added_rows plan.query tables more.added)
            (stands_for_other s.query plan.query more.known.file grown (with_added_rows plan.query tables more.added) more.known.stands more.known.of
            (added_rows_stay_same s.query read plan.query tables more.added (same_old made schema bytes s last grown more.known planned from)));
        written = written made schema bytes s last grown more.known planned from;
      }
