-- The tables that a database stands for.
use Rattle.std.specs.Prelude.{ℕ, List, [], length, slice_index, slice_index_or}
use Rattle.csv_tables.specs.Cells.{rows_of_cells}
use Rattle.csv_tables.specs.Rows.{Row}
use Rattle.csv_tables.specs.declared.types.Cells.{Cells}
use Rattle.csv_tables.specs.declared.types.Database.{Database}

-- for each FROM entry, by its number, the rows of its table
abbrev pub Tables : Type 0
Tables = ℕ → List Row

-- how many rows each entry has
abbrev pub row_counts : Tables → ℕ → ℕ
row_counts tables entry = length (tables entry)

abbrev pub no_cells : Cells
no_cells = record { kinds = []; columns = []; rows = 0 }

-- the cells of an entry's table
abbrev pub cells_of : Database → ℕ → Cells
cells_of db entry = slice_index_or db.cells (slice_index db.slots entry) no_cells

-- the tables of a database: their cells' rows, each cell as its value
abbrev pub tables_of : Database → Tables
tables_of db entry = rows_of_cells db.pool (cells_of db entry)
