-- The kinds, cells and keys of a table's columns, and the lists for a column's keys.
use Rattle.std.specs.Prelude.{◌≡◌, ℕ, ◌<◌, List, [], length, replicate, Option, slice_index_or}
use Rattle.std.specs.List.{zip}
use Rattle.schema_types.specs.declared.types.Kind.{Kind}
use Rattle.schema_types.specs.declared.types.Kind.TheVariants as kind
use Rattle.csv_tables.specs.declared.types.Cells.{Cells}
use Rattle.csv_tables.specs.Values.{Value}
use Rattle.cond_stats.specs.Columns.{list_between}
use Rattle.cond_stats.specs.Lists.{compressed_degrees, list_of_value}
use Rattle.filtered_lists.specs.Lists.{ColumnLists}
use Rattle.filtered_lists.specs.Ranges.{Range}
use Rattle.table_stats.specs.Cells.{IsCellFor}

-- the kind of a column
abbrev pub kind_in : Cells → ℕ → Kind
kind_in cells column = slice_index_or cells.kinds column kind.Int

-- the cells of a column
abbrev pub cells_in : Cells → ℕ → List ℕ
cells_in cells column = slice_index_or cells.columns column []

-- the keys of a joined column: its cells. If the table has no such column, each row has the key 0
abbrev pub keys_in : Cells → ℕ → List ℕ
keys_in cells column = slice_index_or cells.columns column (replicate cells.rows 0)

-- keys, one for each row of a table, have these lists: the list for all rows, and for each column of the table the lists for its values and ranges
pub record AreListsOfKeys (texts : List (List ℕ)) (cells : Cells) (accuracy : ℕ) (keys : List ℕ) (lists : ColumnLists) : Type 0 where
  pub whole : compressed_degrees accuracy keys ≡ lists.whole
  pub equal : (column : ℕ) (value : Value) (cell : Option ℕ) → column < length cells.kinds
      → IsCellFor texts (kind_in cells column) value cell
      → list_of_value accuracy (zip (cells_in cells column) keys) cell ≡ lists.equal column value
  pub range : (range : Range) → range.column < length cells.kinds
      → list_between texts (kind_in cells range.column) accuracy (zip (cells_in cells range.column) keys) range.low range.high
      ≡ lists.range range

-- there are lists that the column's keys have (`AreListsOfKeys`)
abbrev pub KeysHaveLists : List (List ℕ) → Cells → ℕ → ℕ → Type 0
KeysHaveLists texts cells accuracy column = (lists : ColumnLists) × AreListsOfKeys texts cells accuracy (keys_in cells column) lists
