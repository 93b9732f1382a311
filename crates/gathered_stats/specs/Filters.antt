-- The filter columns of an entry's table, each sorted.
use Rattle.std.specs.Prelude.{◌≡◌, ℕ, ◌==◌, ◌<◌, ◌^◌, Bool, true, List, length, All, IfSome}
use Rattle.std.specs.List.{list_any}
use Rattle.cond_stats.specs.Columns.{CellColumn}
use Rattle.csv_tables.specs.declared.types.Cells.{Cells}
use Rattle.filtered_lists.specs.Lists.{ColumnLists}
use Rattle.predicate_bounds.specs.declared.steps.Step.{Step}
use Rattle.sql_meaning.specs.Databases.{AreCells}
use Rattle.gathered_stats.specs.declared.entry_table.EntryTable.{EntryTable}
use Rattle.gathered_stats.specs.declared.filters.SortedColumn.{SortedColumn}
use Rattle.gathered_stats.specs.Asked.{compared_column}
use Rattle.gathered_stats.specs.Columns.{AreListsOfKeys, cells_in, kind_in}
use Rattle.gathered_stats.specs.ShownCells.{shown_cells}

-- the sorted column is the table's column with this number
pub record IsColumnIn (texts : List (List ℕ)) (cells : Cells) (column : ℕ) (sorted : CellColumn) : Type 0 where
  pub exists : column < length cells.kinds
  pub is : sorted ≡ record { texts = texts; kind = kind_in cells column; cells = cells_in cells column }

-- the filter is a column of the table, sorted
abbrev pub IsFilterOf : List (List ℕ) → Cells → SortedColumn → Type 0
IsFilterOf texts cells filter = IsColumnIn texts cells filter.column filter.sorted

-- some filter is the filter of this column
abbrev pub has_filter : List SortedColumn → ℕ → Bool
has_filter filters column = list_any (λ filter. filter.column == column) filters

-- if the step compares a column with literals, some filter is the filter of this column
abbrev pub HasFilterFor : List SortedColumn → Step → Type 0
HasFilterFor filters step = IfSome (compared_column step) (λ column. has_filter filters column ≡ true)

-- each column has a cell of its kind for each row. There are fewer than 2^32 rows, and each filter is a column of the table
pub record IsReady (table : EntryTable) : Type 0 where
  pub cells : AreCells table.pool.now (shown_cells table)
  pub rows : (shown_cells table).rows < 2 ^ 32
  pub filters : All (IsFilterOf table.pool.now (shown_cells table)) table.filters

-- keys, one for each row that the table shows, have these lists
abbrev pub AreColumnListsOf : EntryTable → List ℕ → ColumnLists → Type 0
AreColumnListsOf table keys lists = AreListsOfKeys table.pool.now (shown_cells table) table.accuracy keys lists
