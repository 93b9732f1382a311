-- The widened table, found by the cells of columns.
use Rattle.std.specs.Prelude.{ℕ, Bool, List, [], ◌∷◌, ◌++◌, Option, Some, None}
use Rattle.std.specs.List.{filter_map, range_with_len}
use Rattle.berge_tree.specs.declared.edges.Edge.{Edge}
use Rattle.berge_tree.specs.declared.edges.Place.{Place}
use Rattle.csv_tables.specs.declared.types.Database.{Database}
use Rattle.query_types.specs.declared.types.ColumnRef.{ColumnRef}
use Rattle.sql_meaning.specs.Databases.{IsColumnOfKind}
use Rattle.sql_meaning.specs.Tables.{Tables}
use Rattle.key_carriers.specs.declared.key_rows.KeyRows.{KeyRows}
use Rattle.key_carriers.specs.declared.key_rows.KeyRows.TheVariants as key
use Rattle.key_carriers.specs.Widened.{widened_row}

-- a column of an equality, in the form in which conditions name it
abbrev pub column_at_place : Place → ColumnRef
column_at_place place = record { from = place.entry; column = place.column }

-- both columns of the equality are in the database, and have the same kind
pub record AreOfOneKind (db : Database) (e : Edge) : Type 0 where
  pub text : Bool
  pub left : IsColumnOfKind db (column_at_place e.left) text
  pub right : IsColumnOfKind db (column_at_place e.right) text

-- the cells of the column, row by row
abbrev pub cells_found : KeyRows → List ℕ
cells_found (key.Ascending first rows) = range_with_len first rows
cells_found (key.Chained chains) = chains.keys

-- the list `rows`, with `row` at its end if `row` refers to some row
abbrev pub with_found : List ℕ → ℕ → Option ℕ → List ℕ
with_found rows row None = rows
with_found rows row (Some other) = rows ++ row ∷ []

-- the rows, followed by the row that was found, if one was found
abbrev pub with_other : List ℕ → Option ℕ → List ℕ
with_other others None = others
with_other others (Some other) = others ++ other ∷ []

-- the widened table of the left entry's first `count` rows
abbrev pub widened_to : Tables → Edge → ℕ → List (ℕ × ℕ)
widened_to tables e count = filter_map (widened_row tables e) (range_with_len 0 count)
