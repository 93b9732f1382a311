-- The line that reports the status of a call, from its words and its files.
use Rattle.std.specs.Prelude.{ℕ, List, [], Option, None, Some, Result, Ok, Err}
use Rattle.base_io.specs.Files.{Files}
use Rattle.schema_types.specs.declared.types.Schema.{Schema}
use Rattle.outcomes.specs.declared.status.Status.{Status}
use Rattle.printed_texts.specs.Faults.{NamesInLine, fault_line}
use Rattle.safebound_words.specs.declared.command.SchemaTask.{SchemaTask}
use Rattle.safebound_words.specs.declared.command.Command.{Command}
use Rattle.safebound_words.specs.declared.command.QueryTask.{QueryTask}
use Rattle.safebound_words.specs.declared.command.SchemaTask.TheVariants as schema_tasks
use Rattle.safebound_words.specs.declared.command.QueryTask.TheVariants as query_tasks
use Rattle.prepared_runs.specs.Verdict.{command_stage, schema_read}

-- the name of the statistics file that is read. It is empty if no statistics file is read
abbrev pub stats_file_of : QueryTask → List ℕ
stats_file_of (query_tasks.Plan task) = []
stats_file_of (query_tasks.WriteStats accuracy) = []
stats_file_of (query_tasks.PlanFromStats file terms) = file

-- the names that a line may use: the names of the command's files, and the names in the schema. Only `append` names a file of new rows
abbrev pub names_by : List ℕ → SchemaTask → Option Schema → NamesInLine
names_by name (schema_tasks.Query query work) schema =
    record { schema_file = name; query_file = query; stats_file = stats_file_of work; rows_file = None; schema = schema }
names_by name (schema_tasks.Append append) schema =
    record { schema_file = name; query_file = []; stats_file = append.stats_file; rows_file = Some append.rows_file; schema = schema }

abbrev pub names_of : Option Command → Option Schema → NamesInLine
names_of None schema = record { schema_file = []; query_file = []; stats_file = []; rows_file = None; schema = schema }
names_of (Some command) schema = names_by command.schema_file command.schema_task schema

abbrev pub ok_value : {A E : Type 0} → Result A E → Option A
ok_value (Ok x) = Some x
ok_value (Err e) = None

-- the line of a status with this command and this schema
abbrev pub status_line : Status → Option Command → Option Schema → List ℕ
status_line s command schema = fault_line s (names_of command schema)

-- the line of a status, with the command of these words and the schema that the verdict reads
abbrev pub fault_text : Status → List (List ℕ) → Files → List ℕ
fault_text s words files = status_line s (ok_value (command_stage words)) (ok_value (schema_read words files))
