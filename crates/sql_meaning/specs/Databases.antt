-- When a database fits a query.
use Rattle.std.specs.Prelude.{◌≡◌, ℕ, ◌<◌, ◌≤◌, Bool, List, length, map, All, Some, option_map, slice_get, slice_index, ⊤}
use Rattle.limits.specs.Profile.{most_conjuncts, most_entries, most_rows}
use Rattle.csv_tables.specs.Cells.{AreColumns}
use Rattle.csv_tables.specs.declared.types.Cells.{Cells}
use Rattle.csv_tables.specs.declared.types.Database.{Database}
use Rattle.query_types.specs.Typing.{IsTyped}
use Rattle.query_types.specs.Validity.{is_text}
use Rattle.query_types.specs.declared.types.ColumnRef.{ColumnRef}
use Rattle.query_types.specs.declared.types.Operand.{Operand}
use Rattle.query_types.specs.declared.types.Operand.TheVariants as operand
use Rattle.query_types.specs.declared.types.Cond.{Cond}
use Rattle.query_types.specs.declared.types.Query.{Query}
use Rattle.sql_meaning.specs.Tables.{cells_of, row_counts, tables_of}

-- Each column has one cell for each row. In a column of texts each cell is the number of a text in the pool
abbrev pub AreCells : List (List ℕ) → Cells → Type 0
AreCells texts cells = AreColumns texts cells.rows cells.kinds cells.columns

-- the column exists: it is a column of the table of an entry
pub record IsColumnOf (db : Database) (column : ColumnRef) : Type 0 where
  pub entry : column.from < length db.slots
  pub exists : column.column < length (cells_of db column.from).kinds

-- if the operand is a column, it is a column of an entry's table
abbrev pub HasColumn : Database → Operand → Type 0
HasColumn db (operand.Column column) = IsColumnOf db column
HasColumn db (operand.Int number) = ⊤
HasColumn db (operand.Text text) = ⊤

-- the column exists and has this kind: numbers are one kind, texts of any length the other
pub record IsColumnOfKind (db : Database) (column : ColumnRef) (text : Bool) : Type 0 where
  pub exists : IsColumnOf db column
  pub kind : option_map is_text (slice_get (cells_of db column.from).kinds column.column) ≡ Some text

-- every comparison in the condition is between two numbers or two texts, and its columns exist in the database
abbrev pub IsWellTyped : Database → Cond → Type 0
IsWellTyped db cond = IsTyped (IsColumnOfKind db) cond

-- the cells of each table are valid (`AreCells`), and each entry's slot is the number of a table
pub record AreTables (db : Database) : Type 0 where
  pub cells : All (AreCells db.pool) db.cells
  pub slots : All (λ slot. slot < length db.cells) db.slots

-- The query is within its limits, and the database fits the query. Each FROM entry has a slot, and entries of the same table have the same slot. No
-- table has more than `most_rows` rows. All columns that the query names exist, with the kinds that its comparisons need
pub record IsDatabaseOf (query : Query) (db : Database) : Type 0 where
  pub some : 0 < length query.from
  pub few : length query.from ≤ most_entries
  pub conjuncts_within_limit : length query.conjuncts ≤ most_conjuncts
  pub entries : length db.slots ≡ length query.from
  pub tables : AreTables db
  pub rows_within_limit : (entry : ℕ) → entry < length query.from → row_counts (tables_of db) entry ≤ most_rows
  pub same_slot : (i j : ℕ) → i < length query.from → j < length query.from
      → slice_index (map (λ source. source.table) query.from) i ≡ slice_index (map (λ source. source.table) query.from) j
      → slice_index db.slots i ≡ slice_index db.slots j
  pub conjuncts : All (IsWellTyped db) query.conjuncts
  pub outputs : All (λ out. IsColumnOf db out.column) query.select

-- for each of these entries, `rows` has the number of a row in the entry's table
abbrev pub HaveRows : Database → List ℕ → List ℕ → Type 0
HaveRows db rows entries = All (λ entry. slice_index rows entry < (cells_of db entry).rows) entries
