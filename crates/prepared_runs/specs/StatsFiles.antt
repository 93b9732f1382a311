-- The stages of the verdict with statistics files: a file is read, a query is planned from it, or a file is made from tables.
use Rattle.std.specs.Prelude.{ℕ, List, Option, None, Some, Result, Ok, Err}
use Rattle.limits.specs.Profile.{most_file}
use Rattle.base_io.specs.Files.{Files}
use Rattle.csv_tables.specs.Rows.{Row}
use Rattle.order_search.specs.declared.refusal.PlanError.{PlanError}
use Rattle.stats_file_bounds.specs.Bounds.{scan_bounds_of_file, set_bounds_of_file}
use Rattle.stats_file_bounds.specs.Found.{first_missing}
use Rattle.stats_file_bounds.specs.declared.errors.NeedError.{NeedError}
use Rattle.stats_file_bounds.specs.declared.errors.NeedError.TheVariants as need
use Rattle.stats_file_of_query.specs.Files.{file_of_query}
use Rattle.outcomes.specs.Errors.{stats_refusal}
use Rattle.outcomes.specs.Reads.{◌>>=◌, with_refusal}
use Rattle.outcomes.specs.declared.failure.Failure.{Failure}
use Rattle.outcomes.specs.declared.failure.Failure.TheVariants as failure
use Rattle.outcomes.specs.declared.names.FileId.TheVariants as file
use Rattle.outcomes.specs.declared.refusal.Refusal.{Refusal}
use Rattle.outcomes.specs.declared.refusal.Refusal.TheVariants as refusal
use Rattle.outcomes.specs.declared.refusal.StatsCause.TheVariants as cause
use Rattle.query_types.specs.declared.types.Query.{Query}
use Rattle.schema_types.specs.declared.types.Schema.{Schema}
use Rattle.stats_answers.specs.StatsTexts.{stats_answer}
use Rattle.stats_file.specs.declared.types.StatsFile.{StatsFile}
use Rattle.table_files.specs.EntryTables.{tables_in}
use Rattle.table_files.specs.TableFile.{read}
use Rattle.prepared_runs.specs.RunOutcome.{StatsMade, RunOutcome, PlannedFromStats}
use Rattle.prepared_runs.specs.Shapes.{answer_of, planned_within}
use Rattle.plans.specs.declared.bushy.BushyPlan.{BushyPlan}
use Rattle.safebound_words.specs.declared.command.PlanTerms.{PlanTerms}

-- the statistics file that a text spells over a schema; `stats_stage` reads the text from the file `name`
abbrev pub stats_of_text : Schema → List ℕ → Result StatsFile Refusal
stats_of_text schema text = with_refusal stats_refusal (stats_answer schema text)

unfoldable pub stats_stage : List ℕ → Schema → Files → Result StatsFile Refusal
stats_stage name schema files = do
  text ← read file.Stats most_file name files
  stats_of_text schema text

-- the failure of a run for which a statistics file gives no bounds
abbrev pub need_failure : NeedError → Failure
need_failure (need.Missing from) = failure.Refused (refusal.Stats cause.Missing from)
need_failure need.NoMemory = failure.NoMemory

-- the refusal Missing with the first entry for which the file has no statistics, if there is such an entry
abbrev pub unless_missing : Option ℕ → Result (Unit {0}) Refusal
unless_missing None = Ok tt
unless_missing (Some from) = Err (refusal.Stats cause.Missing from)

-- the plan of a query by the bounds that a statistics file gives, in the shape that the words ask for
abbrev pub plan_from_file_asked : PlanTerms → Query → StatsFile → Result BushyPlan PlanError
plan_from_file_asked terms query stats =
    answer_of terms.shape (set_bounds_of_file query stats) (scan_bounds_of_file query stats) terms.budget

-- the outcome of a plan from a statistics file
abbrev pub made_from_file : PlanTerms → Query → StatsFile → BushyPlan → RunOutcome
made_from_file terms query stats plan = PlannedFromStats (record { query = query; file = stats; shape = terms.shape; plan = plan; memory = terms.memory })

-- the plan of a query from a statistics file: the best order or tree with its bounds, or a refusal. The refusals are Missing with the first
-- entry for which the file has no statistics, PastBits, Budget with the least cost, and MemoryLimit with the bytes of the plan
unfoldable pub stats_file_plan_stage : PlanTerms → Query → StatsFile → Result RunOutcome Refusal
stats_file_plan_stage terms query stats = do
  there ← unless_missing (first_missing query stats)
  planned_within terms.memory (made_from_file terms query stats) (plan_from_file_asked terms query stats)

-- the statistics file of a query, made at an accuracy from the rows of its entries' tables
abbrev pub stats_file_of_tables : Schema → Query → List (List Row) → ℕ → RunOutcome
stats_file_of_tables schema query rows accuracy =
    StatsMade (record { schema = schema; query = query; rows = rows; file = file_of_query schema query (tables_in rows) accuracy })
