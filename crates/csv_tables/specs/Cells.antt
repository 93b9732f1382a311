-- The values of cells, and the rows of a table's cells.
use Rattle.std.specs.Prelude.{ℕ, zero, suc, ◌≡◌, ◌<◌, ◌^◌, List, [], ◌∷◌, ◌++◌, length, map, All, slice_index, slice_index_or, ⊤}
use Rattle.schema_types.specs.declared.types.Kind.{Kind}
use Rattle.schema_types.specs.declared.types.Kind.TheVariants as kind
use Rattle.schema_types.specs.declared.types.Table.{Table}
use Rattle.csv_tables.specs.declared.types.Cells.{Cells}
use Rattle.csv_tables.specs.Numbers.{number_in}
use Rattle.csv_tables.specs.Rows.{Row}
use Rattle.csv_tables.specs.Values.{Value, Int, Text}

-- the value of a cell of this kind: the number of its 64 bits, or the text with this number in the pool
abbrev pub value_of_cell : List (List ℕ) → Kind → ℕ → Value
value_of_cell texts kind.Int cell = Int (number_in cell)
value_of_cell texts (kind.Text most) cell = Text (slice_index_or texts cell [])

-- the values of columns of these kinds in the row with this number, counted from 0
abbrev pub row_of_columns : List (List ℕ) → List Kind → List (List ℕ) → ℕ → Row
row_of_columns texts [] columns row = []
row_of_columns texts (kind ∷ kinds) [] row = []
row_of_columns texts (kind ∷ kinds) (column ∷ columns) row =
    value_of_cell texts kind (slice_index column row) ∷ row_of_columns texts kinds columns row

-- the first `rows` rows of columns of these kinds
abbrev pub rows_of_columns : List (List ℕ) → List Kind → List (List ℕ) → ℕ → List Row
rows_of_columns texts kinds columns zero = []
rows_of_columns texts kinds columns (suc rows) =
    rows_of_columns texts kinds columns rows ++ row_of_columns texts kinds columns rows ∷ []

-- the rows of a table's cells
abbrev pub rows_of_cells : List (List ℕ) → Cells → List Row
rows_of_cells texts cells = rows_of_columns texts cells.kinds cells.columns cells.rows

-- a cell of this kind: for a number it is below 2^64, and for a text it is the number of a text in the pool
abbrev pub IsCell : List (List ℕ) → Kind → ℕ → Type 0
IsCell texts kind.Int cell = cell < 2 ^ 64
IsCell texts (kind.Text most) cell = cell < length texts

-- a column of `rows` cells of this kind
pub record IsColumn (texts : List (List ℕ)) (rows : ℕ) (kind : Kind) (column : List ℕ) : Type 0 where
  pub height : length column ≡ rows
  pub cells : All (IsCell texts kind) column

-- columns of these kinds, each of `rows` cells
abbrev pub AreColumns : List (List ℕ) → ℕ → List Kind → List (List ℕ) → Type 0
AreColumns texts rows [] [] = ⊤
AreColumns texts rows [] (column ∷ columns) = ⊥
AreColumns texts rows (kind ∷ kinds) [] = ⊥
AreColumns texts rows (kind ∷ kinds) (column ∷ columns) = IsColumn texts rows kind column × AreColumns texts rows kinds columns

-- the cells of a table's columns: each column has its kind, one cell for each row, and texts that are in the pool
pub record AreCellsOf (table : Table) (texts : List (List ℕ)) (cells : Cells) : Type 0 where
  pub kinds : cells.kinds ≡ map (λ column. column.kind) table.columns
  pub columns : AreColumns texts cells.rows cells.kinds cells.columns
