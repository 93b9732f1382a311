-- The columns of a database, as cells, have the same lists as the columns of their values.
use Rattle.std.proofs.Common.{◌≡◌, ℕ, ◌<◌, List, [], length, map, get_or, pos, Option, ap, sym, ◌∙◌, subst, arith}
use Rattle.std.specs.Prelude.{slice_index}
use Rattle.std.specs.List.{zip}
use Rattle.std.proofs.lemmas.List.{get_or-map, length-map}
use Rattle.std.proofs.lemmas.List.FromFn.{fill_by_all}
use Rattle.schema_types.specs.declared.types.Kind.{Kind}
use Rattle.schema_types.specs.declared.types.Kind.TheVariants as kind
use Rattle.csv_tables.specs.Cells.{IsColumn, value_of_cell}
use Rattle.csv_tables.specs.Values.{Value, Int}
use Rattle.csv_tables.specs.declared.types.Cells.{Cells}
use Rattle.csv_tables.specs.declared.types.Database.{Database}
use Rattle.query_types.specs.declared.types.ColumnRef.{ColumnRef}
use Rattle.cond_stats.specs.Columns.{list_between as list_of_cells_between}
use Rattle.cond_stats.specs.Lists.{compressed_degrees, list_of_value}
use Rattle.filtered_lists.specs.Standing.{value_in_row}
use Rattle.level_bounds.specs.Keys.{HaveDifferentCharacters}
use Rattle.sql_meaning.specs.Databases.{AreCells, AreTables, IsColumnOf}
use Rattle.sql_meaning.specs.Tables.{cells_of, no_cells, row_counts, tables_of}
use Rattle.sql_meaning.proofs.ColumnFacts.{column_at, value_at}
use Rattle.sql_meaning.proofs.LoopFacts.{rows_are}
use Rattle.table_stats.specs.Cells.{IsCellFor}
use Rattle.table_stats.specs.Columns.{column_values, as_first_rows}
use Rattle.table_stats.specs.Statistics.{column_lists, list_between, list_with}
use Rattle.table_stats.proofs.CellColumns.{same_equal, same_range, same_whole}

module _ (db : Database) (tables_are_valid : AreTables db) (characters_differ : HaveDifferentCharacters db.pool) (entry : ℕ) (entry_exists : entry < length db.slots) where
  abbrev cells : Cells
  cells = cells_of db entry

  pub cells_are : AreCells db.pool cells
  cells_are = tables_are_valid.cells (slice_index db.slots entry) no_cells (tables_are_valid.slots entry 0 entry_exists)

  abbrev kind_at : ℕ → Kind
  kind_at column = get_or cells.kinds column kind.Int

  abbrev cells_in : ℕ → List ℕ
  cells_in column = get_or cells.columns column []

  abbrev Exists : ℕ → Type 0
  Exists column = column < length cells.kinds

  pub column_is : (column : ℕ) → Exists column → IsColumn db.pool cells.rows (kind_at column) (cells_in column)
  column_is column exists = column_at db.pool cells.rows cells.kinds cells.columns cells_are column kind.Int [] exists

  pub values_are : (column : ℕ) → Exists column → map (value_of_cell db.pool (kind_at column)) (cells_in column) ≡ column_values (tables_of db) entry column
  values_are column exists =
      let of_cell : ℕ → Value = value_of_cell db.pool (kind_at column) in
      let all : List ℕ = cells_in column in
      fill_by_all (value_in_row (tables_of db) entry column) (map of_cell all) (row_counts (tables_of db) entry) (Int (pos 0))
      (length-map all of_cell ∙ (column_is column exists).height ∙ sym (rows_are db entry))
      (λ row low.
      let within : row < length all = omega (arith, low, (column_is column exists).height, rows_are db entry) in
      let below : row < cells.rows = omega (arith, low, rows_are db entry) in
      get_or-map of_cell all row 0 (Int (pos 0)) within
      ∙ sym (value_at db.pool cells.rows cells.kinds cells.columns cells_are row column kind.Int [] (Int (pos 0)) below exists))

  module _ (accuracy joined : ℕ) (has_joined : Exists joined) where
    pub whole_is_same : compressed_degrees accuracy (cells_in joined) ≡ (column_lists (tables_of db) accuracy entry joined).whole
    whole_is_same =
        same_whole db.pool characters_differ (kind_at joined) (kind_at joined) (cells_in joined) (cells_in joined) (column_is joined has_joined).cells (column_is joined has_joined).cells accuracy
        ∙ ap (λ (s : List Value). compressed_degrees accuracy (as_first_rows s)) (values_are joined has_joined)

    module _ (filter : ℕ) (has_filter : Exists filter) where
      pub equal_is_same : (value : Value) (cell : Option ℕ) → IsCellFor db.pool (kind_at filter) value cell
          → list_of_value accuracy (zip (cells_in filter) (cells_in joined)) cell ≡ (column_lists (tables_of db) accuracy entry joined).equal filter value
      equal_is_same value cell stands =
          same_equal db.pool characters_differ (kind_at filter) (kind_at joined) (cells_in filter) (cells_in joined) (column_is filter has_filter).cells (column_is joined has_joined).cells accuracy
          value cell stands
          ∙ ap (λ (s : List Value). list_with accuracy s (map (value_of_cell db.pool (kind_at joined)) (cells_in joined)) value) (values_are filter has_filter)
          ∙ ap (λ (s : List Value). list_with accuracy (column_values (tables_of db) entry filter) s value) (values_are joined has_joined)

      pub range_is_same : (low high : Option Value)
          → list_of_cells_between db.pool (kind_at filter) accuracy (zip (cells_in filter) (cells_in joined)) low high
          ≡ (column_lists (tables_of db) accuracy entry joined).range (record { column = filter; low = low; high = high })
      range_is_same low high =
          same_range db.pool characters_differ (kind_at filter) (kind_at joined) (cells_in filter) (cells_in joined) (column_is filter has_filter).cells (column_is joined has_joined).cells accuracy
          ((column_is filter has_filter).height ∙ sym (column_is joined has_joined).height) low high
          ∙ ap (λ (s : List Value). list_between accuracy s (map (value_of_cell db.pool (kind_at joined)) (cells_in joined)) low high) (values_are filter has_filter)
          ∙ ap (λ (s : List Value). list_between accuracy (column_values (tables_of db) entry filter) s low high) (values_are joined has_joined)

-- ---- columns that a query names

pub cells_whole : (db : Database) (joined : ColumnRef) (accuracy : ℕ) → AreTables db → HaveDifferentCharacters db.pool → IsColumnOf db joined
    → compressed_degrees accuracy (get_or (cells_of db joined.from).columns joined.column []) ≡ (column_lists (tables_of db) accuracy joined.from joined.column).whole
cells_whole db joined accuracy are differ there = whole_is_same db are differ joined.from there.entry accuracy joined.column there.exists

pub cells_equal : (db : Database) (filter joined : ColumnRef) (accuracy : ℕ) (value : Value) (cell : Option ℕ)
    → AreTables db → HaveDifferentCharacters db.pool → IsColumnOf db filter → IsColumnOf db joined → filter.from ≡ joined.from
    → IsCellFor db.pool (get_or (cells_of db filter.from).kinds filter.column kind.Int) value cell
    → list_of_value accuracy (zip (get_or (cells_of db filter.from).columns filter.column []) (get_or (cells_of db joined.from).columns joined.column [])) cell
    ≡ (column_lists (tables_of db) accuracy joined.from joined.column).equal filter.column value
cells_equal db filter joined accuracy value cell are differ has_filter has_joined same stands =
    subst (λ (from : ℕ). filter.column < length (cells_of db from).kinds → IsCellFor db.pool (get_or (cells_of db from).kinds filter.column kind.Int) value cell
    → list_of_value accuracy (zip (get_or (cells_of db from).columns filter.column []) (get_or (cells_of db joined.from).columns joined.column [])) cell
    ≡ (column_lists (tables_of db) accuracy joined.from joined.column).equal filter.column value) (sym same)
    (λ exists stands. equal_is_same db are differ joined.from has_joined.entry accuracy joined.column has_joined.exists filter.column exists value cell stands)
    has_filter.exists stands

pub cells_range : (db : Database) (filter joined : ColumnRef) (accuracy : ℕ) (low high : Option Value)
    → AreTables db → HaveDifferentCharacters db.pool → IsColumnOf db filter → IsColumnOf db joined → filter.from ≡ joined.from
    → list_of_cells_between db.pool (get_or (cells_of db filter.from).kinds filter.column kind.Int) accuracy
    (zip (get_or (cells_of db filter.from).columns filter.column []) (get_or (cells_of db joined.from).columns joined.column [])) low high
    ≡ (column_lists (tables_of db) accuracy joined.from joined.column).range (record { column = filter.column; low = low; high = high })
cells_range db filter joined accuracy low high are differ has_filter has_joined same =
    subst (λ (from : ℕ). filter.column < length (cells_of db from).kinds
    → list_of_cells_between db.pool (get_or (cells_of db from).kinds filter.column kind.Int) accuracy
    (zip (get_or (cells_of db from).columns filter.column []) (get_or (cells_of db joined.from).columns joined.column [])) low high
    ≡ (column_lists (tables_of db) accuracy joined.from joined.column).range (record { column = filter.column; low = low; high = high })) (sym same)
    (λ exists. range_is_same db are differ joined.from has_joined.entry accuracy joined.column has_joined.exists filter.column exists low high)
    has_filter.exists
