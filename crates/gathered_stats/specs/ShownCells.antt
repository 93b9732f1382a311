-- The cells that an entry's table shows: the cells of all its rows, or of the rows with given numbers.
use Rattle.std.specs.Prelude.{ℕ, ◌<◌, All, if◌then◌else◌, List, length, map, slice_index}
use Rattle.csv_tables.specs.declared.types.Cells.{Cells}
use Rattle.gathered_stats.specs.declared.entry_table.EntryTable.{EntryTable}

-- the column's cells in these rows, in the order of `rows`
abbrev pub picked : List ℕ → List ℕ → List ℕ
picked rows column = map (slice_index column) rows

-- the table that has only these rows of `cells`, in the order of `rows`
abbrev pub cells_at : List ℕ → Cells → Cells
cells_at rows cells = record { kinds = cells.kinds; columns = map (picked rows) cells.columns; rows = length rows }

-- each of `rows` is the number of a row of the table
abbrev pub AreRowNumbersOf : Cells → List ℕ → Type 0
AreRowNumbersOf cells rows = All (λ row. row < cells.rows) rows

-- the cells that an entry's table shows
abbrev pub shown_cells : EntryTable → Cells
shown_cells table = if table.shows_all_rows then table.cells.now else cells_at table.rows.now table.cells.now
