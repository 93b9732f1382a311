-- The code reads a cell by its column and row. The lemmas say that the cell read has the value which the database has there.
use Rattle.std.proofs.Common.{◌≡◌, ℕ, zero, suc, ◌<◌, List, [], ◌∷◌, length, get_or, refl, ap, sym, ◌∙◌, subst, inl, inr, arith}
use Rattle.std.proofs.lemmas.Bool.{cases_eq}
use Rattle.std.proofs.lemmas.List.{get_or_append_left, get_or_push}
use Rattle.schema_types.specs.declared.types.Kind.{Kind}
use Rattle.schema_types.specs.declared.types.Kind.TheVariants as kind
use Rattle.csv_tables.specs.declared.types.Cells.{Cells}
use Rattle.csv_tables.specs.Cells.{AreColumns, IsCell, IsColumn, row_of_columns, rows_of_columns, value_of_cell}
use Rattle.csv_tables.specs.Rows.{Row}
use Rattle.csv_tables.specs.Values.{Value}
use Rattle.csv_tables.proofs.TableFacts.{columns_long}
use Rattle.csv_tables.proofs.KeyFacts.{rows-length}

pub column_at : (texts : List (List ℕ)) (rows : ℕ) (kinds : List Kind) (columns : List (List ℕ)) → AreColumns texts rows kinds columns
    → (i : ℕ) (kind : Kind) (column : List ℕ) → i < length kinds → IsColumn texts rows (get_or kinds i kind) (get_or columns i column)
column_at texts rows [] columns h i kind column is_below = absurd (omega arith)
column_at texts rows (k ∷ kinds) [] h i kind column is_below = absurd h
column_at texts rows (k ∷ kinds) (c ∷ columns) h zero kind column is_below = h.0
column_at texts rows (k ∷ kinds) (c ∷ columns) h (suc i) kind column is_below = column_at texts rows kinds columns h.1 i kind column (omega arith)

row_at : (texts : List (List ℕ)) (kinds : List Kind) (columns : List (List ℕ)) (n row : ℕ) → row < n → get_or (rows_of_columns texts kinds columns n) row [] ≡ row_of_columns texts kinds columns row
row_at texts kinds columns zero row is_below = absurd (omega arith)
row_at texts kinds columns (suc n) row is_below = elim (cases_eq row n) [
  | inl same ↦ get_or_push (rows_of_columns texts kinds columns n) (row_of_columns texts kinds columns n) [] row (rows-length texts kinds columns n ∙ sym same)
      ∙ ap (row_of_columns texts kinds columns) (sym same)
  | inr apart ↦ (let before : row < n = omega arith in
      get_or_append_left (rows_of_columns texts kinds columns n) (row_of_columns texts kinds columns n ∷ []) [] row (omega (arith, rows-length texts kinds columns n))
      ∙ row_at texts kinds columns n row before)
]

cell_at : (texts : List (List ℕ)) (kinds : List Kind) (columns : List (List ℕ)) (row i : ℕ) (kind : Kind) (column : List ℕ) (d : Value) → i < length kinds → length columns ≡ length kinds
    → get_or (row_of_columns texts kinds columns row) i d ≡ value_of_cell texts (get_or kinds i kind) (get_or (get_or columns i column) row 0)
cell_at texts [] columns row i kind column d is_below as_many = absurd (omega arith)
cell_at texts (k ∷ kinds) [] row i kind column d is_below as_many = absurd (omega arith)
cell_at texts (k ∷ kinds) (c ∷ columns) row zero kind column d is_below as_many = refl
cell_at texts (k ∷ kinds) (c ∷ columns) row (suc i) kind column d is_below as_many = cell_at texts kinds columns row i kind column d (omega arith) (omega arith)

pub value_at : (texts : List (List ℕ)) (rows : ℕ) (kinds : List Kind) (columns : List (List ℕ)) → AreColumns texts rows kinds columns
    → (row i : ℕ) (kind : Kind) (column : List ℕ) (d : Value) → row < rows → i < length kinds
    → get_or (get_or (rows_of_columns texts kinds columns rows) row []) i d ≡ value_of_cell texts (get_or kinds i kind) (get_or (get_or columns i column) row 0)
value_at texts rows kinds columns h row i kind column d is_below within =
    ap (λ (r : Row). get_or r i d) (row_at texts kinds columns rows row is_below)
    ∙ cell_at texts kinds columns row i kind column d within (columns_long texts rows kinds columns h)

-- ---- cells and values, as the code reads them

pub column_length : (texts : List (List ℕ)) (cells : Cells) → AreColumns texts cells.rows cells.kinds cells.columns
    → (columns : List (List ℕ)) (i : ℕ) (column : List ℕ) → columns ≡ cells.columns → column ≡ get_or columns i column → i < length cells.kinds → length column ≡ cells.rows
column_length texts cells h columns i column same is is_below =
    ap (λ (s : List ℕ). length s) (is ∙ ap (λ (s : List (List ℕ)). get_or s i column) same)
    ∙ (column_at texts cells.rows cells.kinds cells.columns h i kind.Int column is_below).height

pub read_value : (texts : List (List ℕ)) (cells : Cells) → AreColumns texts cells.rows cells.kinds cells.columns
    → (kinds : List Kind) (columns : List (List ℕ)) (row i : ℕ) (column read : List ℕ) (d : Value)
    → kinds ≡ cells.kinds → columns ≡ cells.columns → column ≡ get_or columns i column → read ≡ column
    → row < cells.rows → i < length cells.kinds
    → get_or (get_or (rows_of_columns texts cells.kinds cells.columns cells.rows) row []) i d ≡ value_of_cell texts (get_or kinds i kind.Int) (get_or read row 0)
read_value texts cells h kinds columns row i column read d same_kinds same_columns is_column is_read is_below within =
    value_at texts cells.rows cells.kinds cells.columns h row i kind.Int column d is_below within
    ∙ ap (λ (s : List Kind). value_of_cell texts (get_or s i kind.Int) (get_or (get_or cells.columns i column) row 0)) (sym same_kinds)
    ∙ ap (λ (s : List ℕ). value_of_cell texts (get_or kinds i kind.Int) (get_or s row 0)) (ap (λ (s : List (List ℕ)). get_or s i column) (sym same_columns) ∙ sym is_column ∙ sym is_read)

pub read_is_cell : (texts : List (List ℕ)) (cells : Cells) → AreColumns texts cells.rows cells.kinds cells.columns
    → (kinds : List Kind) (columns : List (List ℕ)) (row i : ℕ) (column read : List ℕ)
    → kinds ≡ cells.kinds → columns ≡ cells.columns → column ≡ get_or columns i column → read ≡ column
    → row < cells.rows → i < length cells.kinds → IsCell texts (get_or kinds i kind.Int) (get_or read row 0)
read_is_cell texts cells h kinds columns row i column read same_kinds same_columns is_column is_read is_below within =
    let here : IsColumn texts cells.rows (get_or cells.kinds i kind.Int) (get_or cells.columns i column) = column_at texts cells.rows cells.kinds cells.columns h i kind.Int column within in
    let same : get_or cells.columns i column ≡ read = ap (λ (s : List (List ℕ)). get_or s i column) (sym same_columns) ∙ sym is_column ∙ sym is_read in
    let cell : IsCell texts (get_or cells.kinds i kind.Int) (get_or (get_or cells.columns i column) row 0) = here.cells row 0 (omega (arith, here.height)) in
    subst (λ (s : List Kind). IsCell texts (get_or s i kind.Int) (get_or read row 0)) (sym same_kinds)
    (subst (λ (s : List ℕ). IsCell texts (get_or cells.kinds i kind.Int) (get_or s row 0)) same cell)
