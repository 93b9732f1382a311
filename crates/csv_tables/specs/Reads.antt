-- When cells and columns hold the rows that the specification gives.
use Rattle.std.specs.Prelude.{ℕ, ◌≡◌, List, [], ◌∷◌, ◌++◌, map, Result, Ok, ⊤}
use Rattle.schema_types.specs.declared.types.Column.{Column}
use Rattle.schema_types.specs.declared.types.Kind.{Kind}
use Rattle.csv_tables.specs.declared.types.TableError.{TableError}
use Rattle.csv_tables.specs.Cells.{value_of_cell, rows_of_columns, AreColumns, IsCell}
use Rattle.csv_tables.specs.Rows.{Row}
use Rattle.csv_tables.specs.Values.{Value}

abbrev pub kinds_of : List Column → List Kind
kinds_of columns = map (λ column. column.kind) columns

-- the cell is of this kind and has this value
pub record IsCellOf (texts : List (List ℕ)) (kind : Kind) (value : Value) (cell : ℕ) : Type 0 where
  pub value_is : value_of_cell texts kind cell ≡ value
  pub is_cell : IsCell texts kind cell

-- each cell has the kind and the value at its index
abbrev pub AreCellsOfRow : List (List ℕ) → List Kind → Row → List ℕ → Type 0
AreCellsOfRow texts [] [] [] = ⊤
AreCellsOfRow texts [] [] (cell ∷ cells) = ⊥
AreCellsOfRow texts [] (value ∷ values) cells = ⊥
AreCellsOfRow texts (kind ∷ kinds) [] cells = ⊥
AreCellsOfRow texts (kind ∷ kinds) (value ∷ values) [] = ⊥
AreCellsOfRow texts (kind ∷ kinds) (value ∷ values) (cell ∷ cells) = IsCellOf texts kind value cell × AreCellsOfRow texts kinds values cells

-- `stated` is a row (no refusal), and these are the row's cells
pub record HoldsRow (stated : Result Row TableError) (texts : List (List ℕ)) (kinds : List Kind) (cells : List ℕ) : Type 0 where
  pub row : Row
  pub is_row : stated ≡ Ok row
  pub cells_of_row : AreCellsOfRow texts kinds row cells

-- the columns after a row is added: each has one more cell at its end
abbrev pub add_row : List (List ℕ) → List ℕ → List (List ℕ)
add_row [] cells = []
add_row (column ∷ columns) [] = column ∷ columns
add_row (column ∷ columns) (cell ∷ cells) = (column ++ cell ∷ []) ∷ add_row columns cells

-- `stated` is a list of rows (no refusal), and these are the columns of these rows
pub record HoldsColumns (stated : Result (List Row) TableError) (texts : List (List ℕ)) (kinds : List Kind) (columns : List (List ℕ))
    (rows : ℕ) : Type 0 where
  pub rows_are : stated ≡ Ok (rows_of_columns texts kinds columns rows)
  pub are_columns : AreColumns texts rows kinds columns

-- `stated` is a row (no refusal), and `new` are the columns `old` with this row added
pub record AddsRow (stated : Result Row TableError) (texts : List (List ℕ)) (kinds : List Kind) (old new : List (List ℕ)) : Type 0 where
  pub cells : List ℕ
  pub row : HoldsRow stated texts kinds cells
  pub added : new ≡ add_row old cells
