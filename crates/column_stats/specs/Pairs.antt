-- A pair of columns of a table's cells: the filter column and the joined column.
use Rattle.std.specs.Prelude.{ℕ, ◌<◌, List, [], length, slice_index_or}
use Rattle.std.specs.List.{zip}
use Rattle.schema_types.specs.declared.types.Kind.{Kind}
use Rattle.schema_types.specs.declared.types.Kind.TheVariants as kind
use Rattle.csv_tables.specs.declared.types.Cells.{Cells}
use Rattle.csv_tables.specs.Cells.{IsColumn}

abbrev pub kind_of_column : Cells → ℕ → Kind
kind_of_column cells column = slice_index_or cells.kinds column kind.Int

abbrev pub cells_of_column : Cells → ℕ → List ℕ
cells_of_column cells column = slice_index_or cells.columns column []

-- the column exists, and has one cell of its kind for each row
pub record HasColumn (texts : List (List ℕ)) (cells : Cells) (column : ℕ) : Type 0 where
  pub has_kind : column < length cells.kinds
  pub has_cells : column < length cells.columns
  pub are_cells : IsColumn texts cells.rows (kind_of_column cells column) (cells_of_column cells column)

-- for each row its filter cell and its joined cell
abbrev pub rows_of_pair : Cells → ℕ → ℕ → List (ℕ × ℕ)
rows_of_pair cells filter joined = zip (cells_of_column cells filter) (cells_of_column cells joined)
