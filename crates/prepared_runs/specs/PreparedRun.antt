-- The outcome of a run, from what was read and planned for it.
use Rattle.std.specs.Prelude.{◌≡◌, length}
use Rattle.schema_types.specs.declared.types.Schema.{Schema}
use Rattle.stats_file.specs.Rules.{KeepsRules}
use Rattle.table_files.specs.EntryTables.{entry_rows, rows_of_read}
use Rattle.tree_rows.specs.Memory.{tree_bytes}
use Rattle.prepared_runs.specs.declared.append.PreparedAppend.{PreparedAppend}
use Rattle.prepared_runs.specs.declared.stats_files.PreparedStatsFilePlan.{PreparedStatsFilePlan}
use Rattle.prepared_runs.specs.declared.stats_files.PreparedStatsFile.{PreparedStatsFile}
use Rattle.prepared_runs.specs.declared.prepare.PreparedQuery.{PreparedQuery}
use Rattle.prepared_runs.specs.declared.prepare.PreparedRun.{PreparedRun}
use Rattle.prepared_runs.specs.declared.prepare.PreparedRun.TheVariants as ready
use Rattle.prepared_runs.specs.RunOutcome.{Appended, StatsMade, RunOutcome, Planned, PlannedFromStats}
use Rattle.prepared_runs.specs.PreparedQuery.{IsPrepared, accepted_of}
use Rattle.prepared_runs.specs.Shapes.{IsShapedPlan}

abbrev pub planned_outcome : PreparedQuery → RunOutcome
planned_outcome prepared = Planned (accepted_of prepared)

abbrev pub file_from : Schema → PreparedStatsFile → RunOutcome
file_from schema made_stats = StatsMade (record { schema = schema; query = made_stats.query; rows = entry_rows made_stats.db; file = made_stats.file })

abbrev pub plan_from : PreparedStatsFilePlan → RunOutcome
plan_from made = PlannedFromStats (record { query = made.query; file = made.file; shape = made.shape; plan = made.plan; memory = made.memory })

abbrev pub appended_from : Schema → PreparedAppend → RunOutcome
appended_from schema made = Appended (record { schema = schema; table = made.table; rows = rows_of_read made.rows; file = made.file })

abbrev pub outcome_of : Schema → PreparedRun → RunOutcome
outcome_of schema (ready.Planned prepared) = planned_outcome prepared
outcome_of schema (ready.StatsMade made_stats) = file_from schema made_stats
outcome_of schema (ready.PlannedFromStats made) = plan_from made
outcome_of schema (ready.Appended made) = appended_from schema made

-- the plan is for the query's entries, and `bytes` is how many bytes it takes
pub record IsPlanned (made : PreparedStatsFilePlan) : Type 0 where
  pub plan : IsShapedPlan (length made.query.from) made.shape made.plan
  pub bytes : made.bytes ≡ tree_bytes made.plan

-- the rest of the run can be written without memory: for a planned query, `IsPrepared` holds; a statistics file keeps the rules of statistics
-- files; and a plan from a statistics file is for the query's entries, with the number of bytes that it takes
abbrev pub CanBeWritten : Schema → PreparedRun → Type 0
CanBeWritten schema (ready.Planned prepared) = IsPrepared prepared
CanBeWritten schema (ready.StatsMade made_stats) = KeepsRules schema made_stats.file
CanBeWritten schema (ready.PlannedFromStats made) = IsPlanned made
CanBeWritten schema (ready.Appended made) = KeepsRules schema made.file
