-- Lists of rows in buffers, one for each FROM entry of a database.
use Rattle.std.specs.Prelude.{◌≡◌, ℕ, ◌<◌, ◌≤◌, All, List, length}
use Rattle.limits.specs.Profile.{most_entries, most_rows}
use Rattle.berge_tree.specs.declared.edges.Edge.{Edge}
use Rattle.berge_tree.specs.declared.edges.Place.{Place}
use Rattle.csv_tables.specs.declared.types.Database.{Database}
use Rattle.query_types.specs.declared.types.ColumnRef.{ColumnRef}
use Rattle.row_buf.specs.Rows.{Rows}
use Rattle.sql_meaning.specs.Databases.{AreTables, IsColumnOf}
use Rattle.sql_meaning.specs.Tables.{cells_of}
use Rattle.join_steps.specs.Lists.{list_at, lists_of}

-- no list has room for another row
abbrev pub HaveNoSpare : List (Rows ℕ) → Type 0
HaveNoSpare lists = All (λ list. list.spare ≡ 0) lists

-- there is a list for each entry. Its rows are row numbers of the entry's table, and it has at most as many rows as a table may have
pub record AreRowLists (db : Database) (lists : List (Rows ℕ)) : Type 0 where
  pub tables : AreTables db
  pub count : length lists ≡ length db.slots
  pub few : length lists ≤ most_entries
  pub rows : (entry : ℕ) → entry < length lists → All (λ row. row < (cells_of db entry).rows) (list_at (lists_of lists) entry)
  pub sizes : (entry : ℕ) → length (list_at (lists_of lists) entry) ≤ most_rows

-- a column of an equality, in the form of a query's column reference
abbrev pub column_of : Place → ColumnRef
column_of place = record { from = place.entry; column = place.column }

-- both columns of the equality are in the database
pub record JoinsColumns (db : Database) (e : Edge) : Type 0 where
  pub left : IsColumnOf db (column_of e.left)
  pub right : IsColumnOf db (column_of e.right)
