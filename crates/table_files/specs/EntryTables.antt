-- The rows that the cells of tables stand for, and whether rows can come from files.
use Rattle.std.specs.Prelude.{ℕ, ◌≡◌, ◌<◌, List, [], ◌∷◌, length, map, slice_index, slice_index_or, Ok, ⊤}
use Rattle.std.specs.List.{range_with_len}
use Rattle.schema_types.specs.declared.types.Schema.{Schema}
use Rattle.schema_types.specs.declared.types.Table.{Table}
use Rattle.csv_tables.specs.Cells.{AreCellsOf, rows_of_cells}
use Rattle.csv_tables.specs.Files.{rows_of_file}
use Rattle.csv_tables.specs.Rows.{Row}
use Rattle.csv_tables.specs.declared.types.Cells.{Cells}
use Rattle.csv_tables.specs.declared.types.Database.{Database}
use Rattle.query_types.specs.declared.types.Source.{Source}
use Rattle.sql_meaning.specs.Tables.{Tables, cells_of, tables_of}
use Rattle.table_files.specs.Stage.{numbers_of, table_at}
use Rattle.table_files.specs.declared.rows.TableRows.{TableRows}

-- for each FROM entry of a database the rows of its table
abbrev pub entry_rows : Database → List (List Row)
entry_rows db = map (tables_of db) (range_with_len 0 (length db.slots))

-- the rows of each entry as `Tables`. An entry number past the last gets the first entry's rows, if there are any; no query uses such a number
abbrev pub tables_in : List (List Row) → Tables
tables_in rows entry = slice_index_or rows entry (slice_index_or rows 0 [])

-- each FROM entry has the cells of its table
abbrev pub HasCells : Schema → List Source → Database → Type 0
HasCells schema from db = (entry : ℕ) → entry < length from
    → AreCellsOf (table_at schema (slice_index (numbers_of from) entry)) db.pool (cells_of db entry)

-- there is one `Cells` for each table number. The i-th `Cells` has the cells of the table with the i-th number
abbrev pub AreCellsOfEach : Schema → List (List ℕ) → List ℕ → List Cells → Type 0
AreCellsOfEach schema texts [] [] = ⊤
AreCellsOfEach schema texts [] (cells ∷ others) = ⊥
AreCellsOfEach schema texts (number ∷ numbers) [] = ⊥
AreCellsOfEach schema texts (number ∷ numbers) (cells ∷ others) =
    AreCellsOf (table_at schema number) texts cells × AreCellsOfEach schema texts numbers others

-- the rows of each table, made from its cells
abbrev pub rows_of_tables : List (List ℕ) → List Cells → List (List Row)
rows_of_tables texts tables = map (rows_of_cells texts) tables

-- the rows of one table, made from what was read of it
abbrev pub rows_of_read : TableRows → List Row
rows_of_read read = rows_of_cells read.pool read.cells

-- ---- files

-- some bytes, read as the table's file, give these rows
abbrev pub CanComeFromFile : Table → List Row → Type 0
CanComeFromFile table rows = (bytes : List ℕ) × (rows_of_file table bytes ≡ Ok rows)

-- the rows of each FROM entry are those of some file of its table
abbrev pub CanComeFromFiles : Schema → List Source → Tables → Type 0
CanComeFromFiles schema from tables = (entry : ℕ) → entry < length from → CanComeFromFile (table_at schema (slice_index (numbers_of from) entry)) (tables entry)

-- there is one list of rows for each table number. The i-th list of rows comes from some file of the table with the i-th number
abbrev pub EachCanComeFromFile : Schema → List ℕ → List (List Row) → Type 0
EachCanComeFromFile schema [] [] = ⊤
EachCanComeFromFile schema [] (rows ∷ others) = ⊥
EachCanComeFromFile schema (number ∷ numbers) [] = ⊥
EachCanComeFromFile schema (number ∷ numbers) (rows ∷ others) = CanComeFromFile (table_at schema number) rows × EachCanComeFromFile schema numbers others
