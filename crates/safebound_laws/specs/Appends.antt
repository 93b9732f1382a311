-- What `append` does by the verdict: which files it reads, which file it writes, and for which rows the new file stands.
use Rattle.std.specs.Prelude.{ℕ, ◌≡◌, ◌+◌, ◌≤◌, List, length, Ok}
use Rattle.appended_stats.specs.Appended.{file_after}
use Rattle.appended_stats.specs.Conditions.{HasNewRows}
use Rattle.base_io.specs.Files.{Files}
use Rattle.csv_tables.specs.Rows.{Row}
use Rattle.stats_file_of_query.specs.Standing.{StandsFor}
use Rattle.join_steps.specs.Lists.{scans_of}
use Rattle.limits.specs.Profile.{most_rows}
use Rattle.query_types.specs.declared.types.Query.{Query}
use Rattle.schema_types.specs.declared.types.Schema.{Schema}
use Rattle.sql_meaning.specs.Tables.{Tables}
use Rattle.stats_file.specs.declared.types.StatsFile.{StatsFile}
use Rattle.stats_file.specs.declared.types.TableStats.{TableStats}
use Rattle.table_files.specs.Stage.{table_at}
use Rattle.table_files.specs.TableFile.{rows_in}
use Rattle.prepared_runs.specs.Appending.{section_stage}
use Rattle.prepared_runs.specs.Shapes.{IsPlanOver}
use Rattle.prepared_runs.specs.StatsFiles.{stats_stage}
use Rattle.prepared_runs.specs.RunOutcome.{Appended, PlanFromStatsFile, RunOutcome, PlannedFromStats}
use Rattle.prepared_runs.specs.Verdict.{schema_stage, verdict}

-- the files of the command have the schema, the statistics file with its section of the table, and the new rows. With the new rows the table
-- has at most `most_rows` rows. The outcome is the statistics file after the new rows are counted
pub record GrowsByFile (files : Files) (schema_file stats_file name rows_file : List ℕ) (outcome : RunOutcome) : Type 0 where
  pub schema : Schema
  pub schema_is : schema_stage schema_file files ≡ Ok schema
  pub before : StatsFile
  pub before_is : stats_stage stats_file schema files ≡ Ok before
  pub section : TableStats
  pub section_is : section_stage name schema before ≡ Ok section
  pub rows : List Row
  pub rows_are : rows_in section.table (table_at schema section.table) rows_file files ≡ Ok rows
  pub few : section.rows + length rows ≤ most_rows
  pub after : StatsFile
  pub after_is : after ≡ file_after before section.table rows
  pub written : outcome ≡ Appended (record { schema = schema; table = section.table; rows = rows; file = after })

-- if `before` stands for the tables of a query, `after` stands for these tables with the new rows at the end of their table
abbrev pub StandsAfter : StatsFile → ℕ → List Row → StatsFile → Type 0
StandsAfter before table rows after = (query : Query) (tables grown : Tables) → StandsFor query before tables → HasNewRows query table rows tables grown
    → StandsFor query after grown

-- Suppose that `before` stands for the tables of a plan's query. Then no bound of a plan from `after` is too low for the tables with the new rows
abbrev pub NoBoundIsTooLowAfter : StatsFile → ℕ → List Row → StatsFile → Type 0
NoBoundIsTooLowAfter before table rows after = (words : List (List ℕ)) (files : Files) (plan : PlanFromStatsFile) (tables grown : Tables)
    → verdict words files ≡ Ok (PlannedFromStats plan) → plan.file ≡ after
    → StandsFor plan.query before tables → HasNewRows plan.query table rows tables grown
    → IsPlanOver plan.query grown (scans_of plan.query grown) plan.shape plan.plan
