-- The stage of a run that reads the tables of a query from their files.
use Rattle.std.specs.Prelude.{ℕ, ◌≡◌, ◌==◌, nat_eq, not, List, [], ◌∷◌, ◌++◌, map, slice_index_or, Result, Ok, IsOk}
use Rattle.std.specs.List.{filter, position_or_len}
use Rattle.base_io.specs.Files.{Files}
use Rattle.schema_types.specs.declared.types.Schema.{Schema}
use Rattle.schema_types.specs.declared.types.Table.{Table}
use Rattle.csv_tables.specs.Rows.{Row}
use Rattle.query_types.specs.declared.types.Source.{Source}
use Rattle.outcomes.specs.Reads.{◌>>=◌}
use Rattle.outcomes.specs.declared.names.FileId.{FileId}
use Rattle.outcomes.specs.declared.names.FileId.TheVariants as file
use Rattle.outcomes.specs.declared.refusal.Refusal.{Refusal}
use Rattle.table_files.specs.TableFile.{file_rows}

-- each number once, in the order of first occurrences
abbrev pub without_repeats : List ℕ → List ℕ
without_repeats [] = []
without_repeats (number ∷ numbers) = number ∷ filter (λ other. not (other == number)) (without_repeats numbers)

-- the index of a number in a list, or the list's length if the number isn't in it
abbrev pub index_of : List ℕ → ℕ → ℕ
index_of numbers number = position_or_len (nat_eq number) numbers

-- the number of each FROM entry's table in the schema
abbrev pub numbers_of : List Source → List ℕ
numbers_of from = map (λ source. source.table) from

-- the tables that a query names, each once, in the order in which FROM first names them
abbrev pub tables_of_query : List Source → List ℕ
tables_of_query from = without_repeats (numbers_of from)

-- the default of `table_at`. A query of the schema refers only to tables that the schema has, so `no_table` is never used
abbrev pub no_table : Table
no_table = record { name = []; columns = []; keys = []; references = [] }

abbrev pub table_at : Schema → ℕ → Table
table_at schema number = slice_index_or schema.tables number no_table

-- the rows of the table with this number
abbrev pub table_rows : Schema → ℕ → Files → Result (List Row) Refusal
table_rows schema number files = file_rows number (table_at schema number) files

-- the rows of tables that are read one after another, or the first refusal
abbrev pub rows_of_each : Schema → List ℕ → Files → Result (List (List Row)) Refusal
rows_of_each schema [] files = Ok []
rows_of_each schema (number ∷ numbers) files = do
  rows ← table_rows schema number files
  others ← rows_of_each schema numbers files
  Ok (rows ∷ others)

-- for each FROM entry the rows of its table
abbrev pub rows_by_entry : List Source → List (List Row) → List (List Row)
rows_by_entry from rows = map (λ number. slice_index_or rows (index_of (tables_of_query from) number) []) (numbers_of from)

-- The stage. Each table of the query is read once, in the order of FROM, and each entry gets the rows of its table
unfoldable pub tables_stage : Schema → List Source → Files → Result (List (List Row)) Refusal
tables_stage schema from files = do
  rows ← rows_of_each schema (tables_of_query from) files
  Ok (rows_by_entry from rows)

-- reading the tables in turn reaches the file `id`: it is the file of one of the tables, and no earlier table is refused
pub record IsReached (schema : Schema) (numbers : List ℕ) (files : Files) (id : FileId) : Type 0 where
  pub before : List ℕ
  pub number : ℕ
  pub after : List ℕ
  pub order : before ++ (number ∷ after) ≡ numbers
  pub file : id ≡ file.Table number
  pub sound : IsOk (rows_of_each schema before files)
