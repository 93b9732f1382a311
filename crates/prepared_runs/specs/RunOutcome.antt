-- The outcome of a run that isn't refused, and what is proved about the outcome. The words and the files determine it.
use Rattle.std.specs.Prelude.{ℕ, ◌≡◌, List, Option, ⊤}
use Rattle.appended_stats.specs.Appended.{file_after}
use Rattle.appended_stats.specs.Conditions.{HasNewRows}
use Rattle.csv_tables.specs.Rows.{Row}
use Rattle.stats_file_of_query.specs.Standing.{StandsFor}
use Rattle.join_steps.specs.Lists.{scans_of}
use Rattle.query_types.specs.declared.types.Query.{Query}
use Rattle.schema_types.specs.declared.types.Schema.{Schema}
use Rattle.sql_meaning.specs.Tables.{Tables}
use Rattle.stats_file.specs.Rules.{KeepsRules}
use Rattle.stats_file.specs.declared.types.StatsFile.{StatsFile}
use Rattle.table_files.specs.EntryTables.{tables_in}
use Rattle.prepared_runs.specs.AcceptedQuery.{AcceptedQuery, BoundsHold, RowsAreTheAnswer}
use Rattle.prepared_runs.specs.Limits.{IsWithinLimit}
use Rattle.prepared_runs.specs.Shapes.{IsPlanOver}
use Rattle.safebound_words.specs.declared.command.Shape.{Shape}
use Rattle.plans.specs.declared.bushy.BushyPlan.{BushyPlan}
use Rattle.tree_rows.specs.Memory.{tree_bytes}

-- a statistics file for a query, and the rows from which it is made: those of each FROM entry's table
pub record StatsFileOfTables : Type 0 where
  pub schema : Schema
  pub query : Query
  pub rows : List (List Row)
  pub file : StatsFile

-- a plan of a query with its shape, the statistics file from which it is made, and the limit of memory, if there is one
pub record PlanFromStatsFile : Type 0 where
  pub query : Query
  pub file : StatsFile
  pub shape : Shape
  pub plan : BushyPlan
  pub memory : Option ℕ

-- a statistics file after an append: its schema, the number of one table in the schema, the rows that were added to this table, and the file
pub record AppendedRows : Type 0 where
  pub schema : Schema
  pub table : ℕ
  pub rows : List Row
  pub file : StatsFile

-- a plan from tables, with the rows that are joined; a new statistics file; a plan from a statistics file; or a statistics file after an append
pub data RunOutcome : Type 0 where
  Planned : AcceptedQuery → RunOutcome
  StatsMade : StatsFileOfTables → RunOutcome
  PlannedFromStats : PlanFromStatsFile → RunOutcome
  Appended : AppendedRows → RunOutcome

-- for all tables for which the statistics file stands: no scan has more rows than the plan says, and no level or inner node of the plan has
-- more rows than the plan says
abbrev pub BoundsHoldForItsTables : PlanFromStatsFile → Type 0
BoundsHoldForItsTables made = (tables : Tables) → StandsFor made.query made.file tables
    → IsPlanOver made.query tables (scans_of made.query tables) made.shape made.plan

-- The file is an earlier statistics file after the new rows were counted. If the earlier file stands for some tables, then the new file stands for
-- these tables with the new rows at the end of the table to which they were appended.
pub record StandsAfterAppend (made : AppendedRows) : Type 0 where
  pub before : StatsFile
  pub keeps : KeepsRules made.schema before
  pub grown : made.file ≡ file_after before made.table made.rows
  pub stands : (query : Query) (tables after : Tables) → StandsFor query before tables → HasNewRows query made.table made.rows tables after
      → StandsFor query made.file after

-- No bound is too low. The bounds of a plan from tables hold for these tables. The bounds of a plan from a statistics file hold for all
-- tables for which the file stands. A new statistics file stands for the tables from which it is made. For a file after an append,
-- `StandsAfterAppend` says what it stands for.
abbrev pub NoBoundIsTooLow : RunOutcome → Type 0
NoBoundIsTooLow (Planned run) = BoundsHold run
NoBoundIsTooLow (StatsMade made_stats) = StandsFor made_stats.query made_stats.file (tables_in made_stats.rows)
NoBoundIsTooLow (PlannedFromStats made) = BoundsHoldForItsTables made
NoBoundIsTooLow (Appended made) = StandsAfterAppend made

-- the rows that are printed, if any, are the answer of the query
abbrev pub PrintsTheAnswer : RunOutcome → Type 0
PrintsTheAnswer (Planned run) = RowsAreTheAnswer run
PrintsTheAnswer (StatsMade made_stats) = ⊤
PrintsTheAnswer (PlannedFromStats made) = ⊤
PrintsTheAnswer (Appended made) = ⊤

-- the buffers of a plan take no more bytes than its limit of memory, if there is one
abbrev pub KeepsItsLimit : RunOutcome → Type 0
KeepsItsLimit (Planned run) = IsWithinLimit run.memory (tree_bytes run.plan)
KeepsItsLimit (StatsMade made_stats) = ⊤
KeepsItsLimit (PlannedFromStats made) = IsWithinLimit made.memory (tree_bytes made.plan)
KeepsItsLimit (Appended made) = ⊤
