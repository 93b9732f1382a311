-- In a column that a table doesn't have, all rows have the same value, and so the same key.
use Rattle.std.proofs.Common.{◌≡◌, ℕ, zero, suc, ◌+◌, ◌<◌, ◌≤◌, pos, List, [], ◌∷◌, map, length, get_or, replicate, refl, ap, sym, subst, ◌∙◌, inl, inr, arith}
use Rattle.std.specs.List.{All, range_with_len}
use Rattle.std.proofs.lemmas.List.{get_or_past, length-replicate}
use Rattle.std.proofs.lemmas.Bool.{cases_lt}
use Rattle.std.proofs.lemmas.List.Elements.{All-nil, All-push}
use Rattle.schema_types.specs.declared.types.Kind.{Kind}
use Rattle.schema_types.specs.declared.types.Kind.TheVariants as kind
use Rattle.csv_tables.specs.declared.types.Cells.{Cells}
use Rattle.csv_tables.specs.declared.types.Database.{Database}
use Rattle.csv_tables.specs.Cells.{IsCell, row_of_columns, rows_of_columns, value_of_cell}
use Rattle.csv_tables.specs.Rows.{Row}
use Rattle.csv_tables.specs.Values.{Int, Value}
use Rattle.cond_stats.specs.Lists.{compressed_degrees}
use Rattle.filtered_lists.specs.Standing.{value_in_row}
use Rattle.level_bounds.specs.Keys.{HaveDifferentCharacters}
use Rattle.sql_meaning.specs.Databases.{AreTables}
use Rattle.sql_meaning.specs.Tables.{cells_of, row_counts, tables_of}
use Rattle.sql_meaning.proofs.LoopFacts.{rows_are}
use Rattle.table_stats.specs.Columns.{column_values, as_first_rows}
use Rattle.table_stats.specs.Statistics.{column_lists, list_between, list_with}
use Rattle.table_stats.proofs.CellColumns.{same_equal, same_range, same_whole}
use Rattle.table_stats.proofs.DatabaseColumns.{cells_are, column_is, values_are}
use Rattle.csv_tables.proofs.TableFacts.{columns_long}
use Rattle.csv_tables.proofs.KeyFacts.{rows-length}
use Rattle.gathered_stats.specs.Columns.{AreListsOfKeys, cells_in, keys_in, kind_in}

-- ---- no row has more values than there are columns

row_width : (texts : List (List ℕ)) (kinds : List Kind) (columns : List (List ℕ)) (row : ℕ) → length (row_of_columns texts kinds columns row) ≤ length kinds
row_width texts [] columns row = omega arith
row_width texts (kind ∷ kinds) [] row = omega arith
row_width texts (kind ∷ kinds) (column ∷ columns) row = omega (arith, row_width texts kinds columns row)

rows_width : (texts : List (List ℕ)) (kinds : List Kind) (columns : List (List ℕ)) (n : ℕ) → All (λ (r : Row). length r ≤ length kinds) (rows_of_columns texts kinds columns n)
rows_width texts kinds columns zero = All-nil (λ (r : Row). length r ≤ length kinds)
rows_width texts kinds columns (suc n) =
    All-push (λ (r : Row). length r ≤ length kinds) (rows_of_columns texts kinds columns n) (row_of_columns texts kinds columns n) (rows_width texts kinds columns n) (row_width texts kinds columns n)

-- ---- all rows have the same value and the same key

map_of_constant : {Y : Type 0} (f : ℕ → Y) (v : Y) (a n : ℕ) → ((row : ℕ) → f row ≡ v) → map f (range_with_len a n) ≡ replicate n v
map_of_constant f v a zero h = refl
map_of_constant f v a (suc n) h = rw (h a, map_of_constant f v (a + 1) n h) refl

map_of_replicate : {X Y : Type 0} (f : X → Y) (v : X) (n : ℕ) → map f (replicate n v) ≡ replicate n (f v)
map_of_replicate f v zero = refl
map_of_replicate f v (suc n) = ap (λ s. f v ∷ s) (map_of_replicate f v n)

is_cell : (texts : List (List ℕ)) (n i x : ℕ) → i < n → IsCell texts kind.Int (get_or (replicate n 0) i x)
is_cell texts zero i x low = absurd (omega (arith, low))
is_cell texts (suc n) zero x low = omega arith
is_cell texts (suc n) (suc i) x low = is_cell texts n i x (omega (arith, low))

all_cells : (texts : List (List ℕ)) (n : ℕ) → All (IsCell texts kind.Int) (replicate n 0)
all_cells texts n i x low = is_cell texts n i x (omega (arith, low, length-replicate {A = ℕ} n 0))

module _ (db : Database) (tables_are_valid : AreTables db) (characters_differ : HaveDifferentCharacters db.pool) (entry : ℕ) (entry_exists : entry < length db.slots)
    (column : ℕ) (past : length (cells_of db entry).kinds ≤ column) (accuracy : ℕ) where
  abbrev cells : Cells
  cells = cells_of db entry

  abbrev keys : List ℕ
  keys = replicate cells.rows 0

  one_value : (row : ℕ) → value_in_row (tables_of db) entry column row ≡ Int (pos 0)
  one_value row = elim (cases_lt row cells.rows) [
    | inl low ↦ get_or_past (get_or (rows_of_columns db.pool cells.kinds cells.columns cells.rows) row []) column (Int (pos 0))
        (omega (arith, past, rows_width db.pool cells.kinds cells.columns cells.rows row [] (omega (arith, low, rows-length db.pool cells.kinds cells.columns cells.rows))))
    | inr high ↦ ap (λ (r : Row). get_or r column (Int (pos 0)))
        (get_or_past (rows_of_columns db.pool cells.kinds cells.columns cells.rows) row [] (omega (arith, high, rows-length db.pool cells.kinds cells.columns cells.rows)))
  ]

  values : map (value_of_cell db.pool kind.Int) keys ≡ column_values (tables_of db) entry column
  values =
      map_of_replicate (value_of_cell db.pool kind.Int) 0 cells.rows
      ∙ ap (λ (n : ℕ). replicate n (Int (pos 0))) (sym (rows_are db entry))
      ∙ sym (map_of_constant (value_in_row (tables_of db) entry column) (Int (pos 0)) 0 (row_counts (tables_of db) entry) one_value)

  no_cells_there : keys_in cells column ≡ keys
  no_cells_there =
      get_or_past cells.columns column keys (omega (arith, past, columns_long db.pool cells.rows cells.kinds cells.columns (cells_are db tables_are_valid characters_differ entry entry_exists)))

  lists_of_keys : AreListsOfKeys db.pool cells accuracy keys (column_lists (tables_of db) accuracy entry column)
  lists_of_keys = record {
    whole = same_whole db.pool characters_differ kind.Int kind.Int keys keys (all_cells db.pool cells.rows) (all_cells db.pool cells.rows) accuracy
        ∙ ap (λ (s : List Value). compressed_degrees accuracy (as_first_rows s)) values;
    equal = λ filter value cell low stands.
        same_equal db.pool characters_differ (kind_in cells filter) kind.Int (cells_in cells filter) keys (column_is db tables_are_valid characters_differ entry entry_exists filter low).cells (all_cells db.pool cells.rows) accuracy value cell stands
        ∙ ap (λ (s : List Value). list_with accuracy s (map (value_of_cell db.pool kind.Int) keys) value) (values_are db tables_are_valid characters_differ entry entry_exists filter low)
        ∙ ap (λ (s : List Value). list_with accuracy (column_values (tables_of db) entry filter) s value) values;
    range = λ range low.
        same_range db.pool characters_differ (kind_in cells range.column) kind.Int (cells_in cells range.column) keys (column_is db tables_are_valid characters_differ entry entry_exists range.column low).cells (all_cells db.pool cells.rows) accuracy
        ((column_is db tables_are_valid characters_differ entry entry_exists range.column low).height ∙ sym (length-replicate cells.rows 0)) range.low range.high
        ∙ ap (λ (s : List Value). list_between accuracy s (map (value_of_cell db.pool kind.Int) keys) range.low range.high) (values_are db tables_are_valid characters_differ entry entry_exists range.column low)
        ∙ ap (λ (s : List Value). list_between accuracy (column_values (tables_of db) entry range.column) s range.low range.high) values;
  }

  pub missing_lists : AreListsOfKeys db.pool cells accuracy (keys_in cells column) (column_lists (tables_of db) accuracy entry column)
  missing_lists =
      subst (λ (s : List ℕ). AreListsOfKeys db.pool cells accuracy s (column_lists (tables_of db) accuracy entry column)) (sym no_cells_there) lists_of_keys
