-- The rows of one table, read from its file.
use Rattle.std.specs.Prelude.{ℕ, ◌+◌, List, length, nat_lt, Option, None, Some, Result, Ok, Err, if◌then◌else◌}
use Rattle.limits.specs.Profile.{most_file}
use Rattle.base_io.specs.Files.{Files, file_of}
use Rattle.schema_types.specs.declared.errors.LimitKind.TheVariants as limit
use Rattle.schema_types.specs.declared.types.Table.{Table}
use Rattle.csv_tables.specs.Files.{rows_of_file}
use Rattle.csv_tables.specs.Rows.{Row}
use Rattle.outcomes.specs.Errors.{table_refusal}
use Rattle.outcomes.specs.Reads.{◌>>=◌, with_refusal}
use Rattle.outcomes.specs.declared.names.FileId.{FileId}
use Rattle.outcomes.specs.declared.names.FileId.TheVariants as file
use Rattle.outcomes.specs.declared.refusal.Refusal.{Refusal}
use Rattle.outcomes.specs.declared.refusal.Refusal.TheVariants as refusal
use Rattle.table_files.specs.FileNames.{file_name}

-- the bytes of a file, or why it is refused: it is absent or has more than `most` bytes
abbrev pub bytes_of : FileId → ℕ → Option (List ℕ) → Result (List ℕ) Refusal
bytes_of id most None = Err (refusal.Missing id)
bytes_of id most (Some bytes) = if nat_lt most (length bytes) then Err (refusal.Limit limit.FileBytes id (most + 1)) else Ok bytes

abbrev pub read : FileId → ℕ → List ℕ → Files → Result (List ℕ) Refusal
read id most name files = bytes_of id most (file_of files name)

-- the rows of the table with this number in the schema, read from these bytes
abbrev pub rows_of_bytes : ℕ → Table → List ℕ → Result (List Row) Refusal
rows_of_bytes number table bytes = with_refusal (table_refusal number) (rows_of_file table bytes)

-- the rows of the table with this number, read from the file of this name. The file is refused if it is absent or too long, or for its content
abbrev pub rows_in : ℕ → Table → List ℕ → Files → Result (List Row) Refusal
rows_in number table name files = do
  bytes ← read (file.Table number) most_file name files
  rows_of_bytes number table bytes

-- the rows of the table with this number, read from the table's own file
unfoldable pub file_rows : ℕ → Table → Files → Result (List Row) Refusal
file_rows number table files = rows_in number table (file_name table) files
