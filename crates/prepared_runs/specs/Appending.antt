-- The stages of the verdict for `append`, which counts new rows of a table in a statistics file.
use Rattle.std.specs.Prelude.{ℕ, ◌+◌, nat_le, Bool, List, length, find, if◌then◌else◌, Option, None, Some, Result, Ok, Err}
use Rattle.std.specs.Str.{str_eq_ignore_ascii_case}
use Rattle.limits.specs.Profile.{most_rows}
use Rattle.base_io.specs.Files.{Files}
use Rattle.appended_stats.specs.Appended.{file_after}
use Rattle.csv_tables.specs.Rows.{Row}
use Rattle.outcomes.specs.Reads.{◌>>=◌}
use Rattle.outcomes.specs.declared.names.FileId.TheVariants as file
use Rattle.outcomes.specs.declared.refusal.Refusal.{Refusal}
use Rattle.outcomes.specs.declared.refusal.Refusal.TheVariants as refusal
use Rattle.outcomes.specs.declared.refusal.StatsCause.TheVariants as cause
use Rattle.schema_types.specs.declared.errors.LimitKind.TheVariants as limit
use Rattle.schema_types.specs.declared.types.Schema.{Schema}
use Rattle.stats_file.specs.declared.types.StatsFile.{StatsFile}
use Rattle.stats_file.specs.declared.types.TableStats.{TableStats}
use Rattle.table_files.specs.Stage.{table_at}
use Rattle.table_files.specs.TableFile.{rows_in}
use Rattle.safebound_words.specs.declared.command.NewRows.{NewRows}
use Rattle.prepared_runs.specs.StatsFiles.{stats_stage}
use Rattle.prepared_runs.specs.RunOutcome.{Appended, RunOutcome}

-- ---- the section to which rows are appended

-- whether the section belongs to the table `name`. Letter case makes no difference
abbrev pub is_of_table : Schema → List ℕ → TableStats → Bool
is_of_table schema name section = str_eq_ignore_ascii_case (table_at schema section.table).name name

-- the section, or the refusal Missing, with 0 for the FROM entry. The section is missing if the schema has no table of this name, or if the file has
-- no section of this table
abbrev pub or_missing : Option TableStats → Result TableStats Refusal
or_missing None = Err (refusal.Stats cause.Missing 0)
or_missing (Some section) = Ok section

unfoldable pub section_stage : List ℕ → Schema → StatsFile → Result TableStats Refusal
section_stage name schema stats = or_missing (find (is_of_table schema name) stats.tables)

-- ---- the statistics file after the new rows are counted

-- the statistics file after the new rows are counted. The table had `before` rows; with the new rows it may have at most `most_rows`
unfoldable pub grown_stage : Schema → StatsFile → ℕ → ℕ → List Row → Result RunOutcome Refusal
grown_stage schema stats table before rows =
    if nat_le (before + length rows) most_rows
    then Ok (Appended (record { schema = schema; table = table; rows = rows; file = file_after stats table rows }))
    else Err (refusal.Limit limit.Rows (file.Table table) (most_rows + 1))

-- the new rows are read from the file `name`, with the same rules and refusals as any file of the table
unfoldable pub rows_run : List ℕ → Schema → StatsFile → ℕ → ℕ → Files → Result RunOutcome Refusal
rows_run name schema stats table before files = do
  rows ← rows_in table (table_at schema table) name files
  grown_stage schema stats table before rows

-- ---- all stages of `append`: read the statistics file, find its section of the table, and count the new rows

unfoldable pub stats_run : NewRows → Schema → StatsFile → Files → Result RunOutcome Refusal
stats_run append schema stats files = do
  section ← section_stage append.table schema stats
  rows_run append.rows_file schema stats section.table section.rows files

unfoldable pub append_run : NewRows → Schema → Files → Result RunOutcome Refusal
append_run append schema files = do
  stats ← stats_stage append.stats_file schema files
  stats_run append schema stats files

-- the section that an `append` reads
unfoldable pub section_read : NewRows → Schema → Files → Result TableStats Refusal
section_read append schema files = do
  stats ← stats_stage append.stats_file schema files
  section_stage append.table schema stats
