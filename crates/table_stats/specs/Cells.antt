-- Columns of cells, and the cell that stands for a literal in a column.
use Rattle.std.specs.Prelude.{◌≡◌, ℕ, true, false, List, [], Option, None, Some, slice_index_or}
use Rattle.std.specs.Ordering.{is_eq}
use Rattle.schema_types.specs.declared.types.Kind.{Kind}
use Rattle.schema_types.specs.declared.types.Kind.TheVariants as kind
use Rattle.csv_tables.specs.Cells.{IsCell, value_of_cell}
use Rattle.csv_tables.specs.Values.{Value, value_cmp}
use Rattle.csv_tables.specs.declared.types.Database.{Database}
use Rattle.query_types.specs.declared.types.ColumnRef.{ColumnRef}
use Rattle.sql_meaning.specs.Tables.{cells_of}

-- the cells of a column of an entry's table, row by row
abbrev pub cells_of_column : Database → ColumnRef → List ℕ
cells_of_column db column = slice_index_or (cells_of db column.from).columns column.column []

-- the kind of the cells of this column
abbrev pub kind_of_column : Database → ColumnRef → Kind
kind_of_column db column = slice_index_or (cells_of db column.from).kinds column.column kind.Int

-- `cell` is a cell of this kind that has the value, or is `None` if no cell of this kind has the value
abbrev pub IsCellFor : List (List ℕ) → Kind → Value → Option ℕ → Type 0
IsCellFor texts kind value (Some cell) = IsCell texts kind cell × (is_eq (value_cmp (value_of_cell texts kind cell) value) ≡ true)
IsCellFor texts kind value None = (cell : ℕ) → IsCell texts kind cell → is_eq (value_cmp (value_of_cell texts kind cell) value) ≡ false
