-- `shown_cells` gives the cells that an entry's table shows: the cells of all its rows, or the cells in given rows.
use Rattle.std.proofs.Common.{◌≡◌, ℕ, ◌<◌, Bool, true, false, cond, List, [], ◌∷◌, length, map, get_or, refl, ap, sym, subst, arith}
use Rattle.std.specs.List.{All}
use Rattle.std.proofs.lemmas.List.{get_or-map, length-map}
use Rattle.schema_types.specs.declared.types.Kind.{Kind}
use Rattle.csv_tables.specs.declared.types.Cells.{Cells}
use Rattle.csv_tables.specs.Cells.{AreColumns, IsCell}
use Rattle.sql_meaning.specs.Databases.{AreCells}
use Rattle.gathered_stats.specs.declared.entry_table.EntryTable.{EntryTable}
use Rattle.gathered_stats.specs.ShownCells.{AreRowNumbersOf, cells_at, picked, shown_cells}

pub shown_kinds : (table : EntryTable) → (shown_cells table).kinds ≡ table.cells.now.kinds
shown_kinds table = by table.shows_all_rows
  where
    by : (b : Bool) → (cond b table.cells.now (cells_at table.rows.now table.cells.now)).kinds ≡ table.cells.now.kinds
    by true = refl
    by false = refl

pub shown_if_all_rows : (table : EntryTable) → table.shows_all_rows ≡ true → shown_cells table ≡ table.cells.now
shown_if_all_rows table whole = ap (λ (b : Bool). cond b table.cells.now (cells_at table.rows.now table.cells.now)) whole

pub shown_if_given_rows : (table : EntryTable) → table.shows_all_rows ≡ false → shown_cells table ≡ cells_at table.rows.now table.cells.now
shown_if_given_rows table rows = ap (λ (b : Bool). cond b table.cells.now (cells_at table.rows.now table.cells.now)) rows

-- ---- the cells in given rows are cells of their columns' kinds

pub picked_cells : (texts : List (List ℕ)) (kind : Kind) (column : List ℕ) → All (IsCell texts kind) column → (rows : List ℕ) → All (λ row. row < length column) rows
    → All (IsCell texts kind) (picked rows column)
picked_cells texts kind column are rows is_below k d within =
    let here : k < length rows = omega (arith, within, length-map rows (λ (row : ℕ). get_or column row 0)) in
    subst (IsCell texts kind) (sym (get_or-map (λ (row : ℕ). get_or column row 0) rows k 0 d here)) (are (get_or rows k 0) 0 (is_below k 0 here))

columns_at : (texts : List (List ℕ)) (count : ℕ) (kinds : List Kind) (columns : List (List ℕ)) → AreColumns texts count kinds columns → (rows : List ℕ) → All (λ row. row < count) rows
    → AreColumns texts (length rows) kinds (map (picked rows) columns)
columns_at texts count [] [] are rows is_below = tt
columns_at texts count [] (column ∷ columns) are rows is_below = absurd are
columns_at texts count (kind ∷ kinds) [] are rows is_below = absurd are
columns_at texts count (kind ∷ kinds) (column ∷ columns) are rows is_below = (
  record {
    height = length-map rows (λ (row : ℕ). get_or column row 0);
    cells = picked_cells texts kind column are.0.cells rows (subst (λ (n : ℕ). All (λ row. row < n) rows) (sym are.0.height) is_below);
  },
  columns_at texts count kinds columns are.1 rows is_below,
)

pub are_cells_at : (texts : List (List ℕ)) (cells : Cells) (rows : List ℕ) → AreCells texts cells → AreRowNumbersOf cells rows → AreCells texts (cells_at rows cells)
are_cells_at texts cells rows are is_below = columns_at texts cells.rows cells.kinds cells.columns are rows is_below
