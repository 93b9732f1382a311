-- A plan from the statistics file of a query's tables prints the same as a plan from these tables.
use Rattle.std.proofs.Common.{◌≡◌, ℕ, ◌<◌, ◌≤◌, List, Bool, true, false, Option, None, Some, Result, Ok, Err, refl, ap, sym, ◌∙◌}
use Rattle.std.specs.Prelude.{nat_le, if◌then◌else◌}
use Rattle.limits.specs.Profile.{most_accuracy, most_file}
use Rattle.base_io.specs.Files.{Files}
use Rattle.csv_tables.specs.Rows.{Row}
use Rattle.csv_tables.specs.declared.types.Database.{Database}
use Rattle.stats_file_bounds.specs.Bounds.{scan_bounds_of_file}
use Rattle.stats_file_exactness.proofs.Exactness.{none_missing, scans_same, sets_same}
use Rattle.stats_file_of_query.proofs.Rules.{file_keeps}
use Rattle.stats_file_of_query.specs.Databases.{FitsQueryAndTexts}
use Rattle.stats_file_of_query.specs.Files.{file_of_query}
use Rattle.order_search.specs.declared.refusal.PlanError.{PlanError}
use Rattle.outcomes.specs.Errors.{stats_refusal}
use Rattle.outcomes.specs.Reads.{◌>>=◌, mapped, with_refusal}
use Rattle.outcomes.specs.declared.names.FileId.TheVariants as file
use Rattle.outcomes.specs.declared.refusal.Refusal.{Refusal}
use Rattle.outcomes.specs.declared.refusal.Refusal.TheVariants as refusal
use Rattle.planning.specs.Bounds.{set_bounds_of}
use Rattle.query_types.specs.declared.types.Query.{Query}
use Rattle.schema_types.proofs.Valid.{declares_valid}
use Rattle.schema_types.specs.Validity.{IsValid}
use Rattle.schema_types.specs.declared.types.Schema.{Schema}
use Rattle.sql_meaning.specs.Tables.{tables_of}
use Rattle.stats_answers.proofs.ByteNames.{declared_bytes}
use Rattle.stats_answers.proofs.StatsAnswers.{written_file_is_read}
use Rattle.stats_file.specs.FileText.{file_text}
use Rattle.stats_file.specs.declared.types.StatsFile.{StatsFile}
use Rattle.stats_reading.specs.Names.{HasByteColumns}
use Rattle.table_files.specs.EntryTables.{entry_rows, tables_in}
use Rattle.table_files.proofs.EntryLaws.{two_steps}
use Rattle.table_files.specs.Stage.{tables_stage}
use Rattle.table_files.specs.TableFile.{read}
use Rattle.safebound_words.specs.Commands.{over_query}
use Rattle.safebound_words.specs.declared.command.QueryTask.{QueryTask}
use Rattle.safebound_words.specs.declared.command.SchemaTask.TheVariants as schema_tasks
use Rattle.safebound_words.specs.declared.command.QueryTask.TheVariants as query_tasks
use Rattle.prepared_runs.specs.StatsFiles.{made_from_file, plan_from_file_asked, stats_file_plan_stage, stats_of_text, stats_stage, stats_file_of_tables, unless_missing}
use Rattle.prepared_runs.specs.Limits.{within_limit}
use Rattle.prepared_runs.specs.RunOutcome.{RunOutcome, Planned}
use Rattle.safebound_top.specs.OutcomeTexts.{out_text}
use Rattle.prepared_runs.specs.Shapes.{answer_of, planned_by, planned_within}
use Rattle.prepared_runs.specs.Sources.{sets_by, scans_by}
use Rattle.prepared_runs.specs.Verdict.{schema_task_run, command_run, plan_asked, plan_stage, query_stage, accepted_query, schema_stage, query_task_run}
use Rattle.plans.specs.declared.bushy.BushyPlan.{BushyPlan}
use Rattle.tree_rows.specs.Memory.{tree_bytes}
use Rattle.safebound_words.specs.declared.command.PlanTerms.{PlanTerms}
use Rattle.safebound_top.proofs.Promises.{declares, query_of_schema}
use Rattle.safebound_laws.specs.Printed.{plan_of_columns, both_texts}
use Rattle.safebound_laws.proofs.Databases.{database_found}

-- ---- a limit of memory

test_alike : (test : Bool) (r : Refusal) (x y : RunOutcome) → both_texts x ≡ both_texts y
    → mapped both_texts (if test then Ok x else Err r) ≡ mapped both_texts (if test then Ok y else Err r)
test_alike true r x y same = ap (λ (p : Option (List ℕ) × Option (List ℕ)). Ok p) same
test_alike false r x y same = refl

limits_alike : (memory : Option ℕ) (bytes : ℕ) (x y : RunOutcome) → both_texts x ≡ both_texts y
    → mapped both_texts (within_limit memory bytes x) ≡ mapped both_texts (within_limit memory bytes y)
limits_alike None bytes x y same = ap (λ (p : Option (List ℕ) × Option (List ℕ)). Ok p) same
limits_alike (Some limit) bytes x y same = test_alike (nat_le bytes limit) (refusal.MemoryLimit bytes) x y same

-- ---- the stages after the query is read

module _ (query : Query) (file : StatsFile) (rows : List (List Row)) (terms : PlanTerms) (accuracy : ℕ) where
  by_file : Result BushyPlan PlanError → Result RunOutcome Refusal
  by_file answer = planned_within terms.memory (made_from_file terms query file) answer

  by_tables : Result BushyPlan PlanError → Result RunOutcome Refusal
  by_tables answer = planned_within terms.memory (λ plan. Planned (accepted_query (plan_of_columns terms accuracy) query rows plan)) answer

  print_alike : (answer : Result BushyPlan PlanError) → mapped both_texts (by_file answer) ≡ mapped both_texts (by_tables answer)
  unfolding by_file by_tables
  print_alike (Ok plan) =
      limits_alike terms.memory (tree_bytes plan) (made_from_file terms query file plan) (Planned (accepted_query (plan_of_columns terms accuracy) query rows plan)) refl
  print_alike (Err e) = refl

module _ (schema : Schema) (query : Query) (db : Database) (over : FitsQueryAndTexts schema query db) (accuracy : ℕ) (accuracy_is_positive : 0 < accuracy)
    (most : accuracy ≤ most_accuracy) (terms : PlanTerms) where
  abbrev file_of : StatsFile
  file_of = file_of_query schema query (tables_of db) accuracy

  -- the plan from the file is the plan over the tables
  same_plan : plan_from_file_asked terms query file_of ≡ plan_asked (plan_of_columns terms accuracy) schema query (tables_of db)
  unfolding planned_by sets_by scans_by
  same_plan =
      ap (λ sets. answer_of terms.shape sets (scan_bounds_of_file query file_of) terms.budget) (sets_same schema query db over accuracy accuracy_is_positive most)
      ∙ ap (λ scans. answer_of terms.shape (set_bounds_of query (tables_of db) accuracy) scans terms.budget) (scans_same schema query db over accuracy accuracy_is_positive most)

  from_file : stats_file_plan_stage terms query file_of ≡ by_file query file_of (entry_rows db) terms accuracy (plan_asked (plan_of_columns terms accuracy) schema query (tables_of db))
  unfolding stats_file_plan_stage by_file
  from_file =
      ap (λ missing. unless_missing missing >>= λ there. planned_within terms.memory (made_from_file terms query file_of) (plan_from_file_asked terms query file_of))
      (none_missing schema query db over accuracy accuracy_is_positive most)
      ∙ ap (planned_within terms.memory (made_from_file terms query file_of)) same_plan

  from_tables : tables_in (entry_rows db) ≡ tables_of db → plan_stage (plan_of_columns terms accuracy) schema query (entry_rows db)
      ≡ by_tables query file_of (entry_rows db) terms accuracy (plan_asked (plan_of_columns terms accuracy) schema query (tables_of db))
  unfolding plan_stage by_tables
  from_tables tables =
      ap (planned_within terms.memory (λ plan. Planned (accepted_query (plan_of_columns terms accuracy) query (entry_rows db) plan)))
      (ap (plan_asked (plan_of_columns terms accuracy) schema query) tables)

  read_back : (name : List ℕ) (files : Files) → HasByteColumns schema → read file.Stats most_file name files ≡ Ok (file_text schema file_of)
      → stats_stage name schema files ≡ Ok file_of
  unfolding stats_stage
  read_back name files columns there =
      ap (λ text. text >>= stats_of_text schema) there
      ∙ ap (with_refusal stats_refusal) (written_file_is_read schema file_of over.of.schema_is columns (file_keeps schema query db over accuracy accuracy_is_positive most))

  pub works_alike : (name : List ℕ) (files : Files) → HasByteColumns schema → tables_in (entry_rows db) ≡ tables_of db
      → tables_stage schema query.from files ≡ Ok (entry_rows db) → read file.Stats most_file name files ≡ Ok (file_text schema file_of)
      → mapped both_texts (query_task_run (query_tasks.PlanFromStats name terms) schema query files) ≡ mapped both_texts (query_task_run (query_tasks.Plan (plan_of_columns terms accuracy)) schema query files)
  works_alike name files columns tables rows there =
      ap (λ stats. mapped both_texts (stats >>= λ stats. stats_file_plan_stage terms query stats)) (read_back name files columns there)
      ∙ ap (mapped both_texts) from_file
      ∙ print_alike query file_of (entry_rows db) terms accuracy (plan_asked (plan_of_columns terms accuracy) schema query (tables_of db))
      ∙ sym (ap (mapped both_texts) (from_tables tables))
      ∙ sym (ap (λ rows. mapped both_texts (rows >>= plan_stage (plan_of_columns terms accuracy) schema query)) rows)

-- ---- the stages of the whole command

module _ (schema_file query_file : List ℕ) (files : Files) (schema : Schema) (query : Query) (schema_is : schema_stage schema_file files ≡ Ok schema)
    (query_is : query_stage query_file schema files ≡ Ok query) where
  asked_work : (work : QueryTask) → command_run (over_query None schema_file query_file work) files ≡ query_task_run work schema query files
  unfolding command_run
  asked_work work =
      ap (λ (s : Result Schema Refusal). s >>= λ s. schema_task_run (schema_tasks.Query query_file work) s files) schema_is
      ∙ ap (λ (q : Result Query Refusal). q >>= λ q. query_task_run work schema q files) query_is

-- ---- the file that `stats` writes

pub record FileMade (schema_file query_file : List ℕ) (accuracy : ℕ) (files : Files) (written : RunOutcome) : Type 0 where
  pub schema : Schema
  pub schema_is : schema_stage schema_file files ≡ Ok schema
  pub query : Query
  pub query_is : query_stage query_file schema files ≡ Ok query
  pub rows : List (List Row)
  pub rows_are : tables_stage schema query.from files ≡ Ok rows
  pub is : stats_file_of_tables schema query rows accuracy ≡ written

pub file_made : (schema_file query_file : List ℕ) (accuracy : ℕ) (files : Files) (written : RunOutcome) → command_run (over_query None schema_file query_file (query_tasks.WriteStats accuracy)) files ≡ Ok written
    → FileMade schema_file query_file accuracy files written
unfolding command_run
file_made schema_file query_file accuracy files written ran =
    let read = two_steps (schema_stage schema_file files) (λ s. schema_task_run (schema_tasks.Query query_file (query_tasks.WriteStats accuracy)) s files) written ran in
    let asked = two_steps (query_stage query_file read.0 files) (λ q. query_task_run (query_tasks.WriteStats accuracy) read.0 q files) written read.2 in
    let filed = two_steps (tables_stage read.0 asked.0.from files) (λ rows. Ok (stats_file_of_tables read.0 asked.0 rows accuracy)) written asked.2 in
    record {
      schema = read.0;
      schema_is = read.1;
      query = asked.0;
      query_is = asked.1;
      rows = filed.0;
      rows_are = filed.1;
      is = cc (filed.2);
    }

-- ---- both commands print the same

pub files_alike : (schema_file query_file stats_file : List ℕ) (accuracy : ℕ) (terms : PlanTerms) (files : Files) (written : RunOutcome) (text : List ℕ)
    → 0 < accuracy → accuracy ≤ most_accuracy
    → command_run (over_query None schema_file query_file (query_tasks.WriteStats accuracy)) files ≡ Ok written → out_text written ≡ Some text
    → read file.Stats most_file stats_file files ≡ Ok text
    → mapped both_texts (command_run (over_query None schema_file query_file (query_tasks.PlanFromStats stats_file terms)) files)
    ≡ mapped both_texts (command_run (over_query None schema_file query_file (query_tasks.Plan (plan_of_columns terms accuracy))) files)
files_alike schema_file query_file stats_file accuracy terms files outcome text least most ran wrote there =
    let made = file_made schema_file query_file accuracy files outcome ran in
    let schema = made.schema in
    let query = made.query in
    let declared = declares schema_file files schema made.schema_is in
    let good : IsValid schema = declares_valid declared.text schema declared.declares.is in
    let columns : HasByteColumns schema = declared_bytes declared.text schema declared.declares.is in
    let found = database_found schema query files made.rows good (query_of_schema query_file files schema query made.query_is) made.rows_are in
    let tables : tables_in made.rows ≡ tables_of found.database = ap tables_in found.rows_are ∙ found.tables_are in
    let told_text : Some (file_text schema (file_of_query schema query (tables_in made.rows) accuracy)) ≡ Some text = ap out_text made.is ∙ wrote in
    let those : file_text schema (file_of_query schema query (tables_in made.rows) accuracy) ≡ text = cc in
    let is : text ≡ file_text schema (file_of_query schema query (tables_of found.database) accuracy)
    = sym those ∙ ap (λ tables. file_text schema (file_of_query schema query tables accuracy)) tables in
    ap (mapped both_texts) (asked_work schema_file query_file files schema query made.schema_is made.query_is (query_tasks.PlanFromStats stats_file terms))
    ∙ works_alike schema query found.database found.over accuracy least most terms stats_file files columns found.tables_are
    (made.rows_are ∙ ap (λ rows. Ok rows) found.rows_are) (there ∙ ap (λ text. Ok text) is)
    ∙ sym (ap (mapped both_texts) (asked_work schema_file query_file files schema query made.schema_is made.query_is (query_tasks.Plan (plan_of_columns terms accuracy))))
