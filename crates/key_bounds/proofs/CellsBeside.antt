-- Rows of one entry are paired with rows of another entry. The lists made from the cells of these rows are equal to the lists made from their values.
use Rattle.std.proofs.Common.{◌≡◌, ℕ, ◌<◌, List, [], length, map, get_or, pos, ap, sym, ◌∙◌, subst, arith}
use Rattle.std.specs.Prelude.{slice_index_or}
use Rattle.std.specs.List.{All, zip}
use Rattle.std.proofs.lemmas.List.{ext_get_or, get_or-map, length-map}
use Rattle.std.proofs.lemmas.List.FromFn.{fill_by_all}
use Rattle.schema_types.specs.declared.types.Kind.{Kind}
use Rattle.schema_types.specs.declared.types.Kind.TheVariants as kind
use Rattle.csv_tables.specs.Cells.{IsCell, IsColumn, value_of_cell}
use Rattle.csv_tables.specs.Rows.{Row}
use Rattle.csv_tables.specs.Values.{Value, Int}
use Rattle.csv_tables.specs.declared.types.Cells.{Cells}
use Rattle.csv_tables.specs.declared.types.Database.{Database}
use Rattle.csv_tables.proofs.TableFacts.{columns_long}
use Rattle.cond_stats.specs.Columns.{list_between as list_of_cells_between}
use Rattle.cond_stats.specs.Lists.{compressed_degrees, list_of_value}
use Rattle.filtered_lists.specs.Standing.{value_in_row}
use Rattle.level_bounds.specs.Keys.{HaveDifferentCharacters, value_at}
use Rattle.sql_meaning.specs.Databases.{AreTables}
use Rattle.sql_meaning.specs.Tables.{Tables, cells_of, row_counts, tables_of}
use Rattle.sql_meaning.proofs.ColumnFacts as columns
use Rattle.table_stats.specs.Columns.{column_values, as_first_rows}
use Rattle.table_stats.specs.Statistics.{list_between, list_with, lists_over}
use Rattle.table_stats.proofs.CellColumns.{same_equal, same_range, same_whole}
use Rattle.table_stats.proofs.DatabaseColumns.{cells_are, column_is}
use Rattle.gathered_stats.specs.Columns.{AreListsOfKeys, cells_in, kind_in}
use Rattle.gathered_stats.specs.ShownCells.{AreRowNumbersOf, cells_at, picked}
use Rattle.gathered_stats.proofs.ShownCells.{picked_cells}
use Rattle.key_carriers.specs.Widened.{tables_at, values_at}

module _ (db : Database) (are : AreTables db) (differ : HaveDifferentCharacters db.pool) where
  -- ---- a column's cells in chosen rows

  module _ (entry : ℕ) (there : entry < length db.slots) (rows : List ℕ) (rows_in_range : AreRowNumbersOf (cells_of db entry) rows) where
    abbrev cells : Cells
    cells = cells_of db entry

    module _ (column : ℕ) (exists : column < length (cells_of db entry).kinds) where
      abbrev of_cell : ℕ → Value
      of_cell = value_of_cell db.pool (kind_in cells column)

      abbrev here : List ℕ
      here = picked rows (cells_in cells column)

      whole : IsColumn db.pool cells.rows (kind_in cells column) (cells_in cells column)
      whole = column_is db are differ entry there column exists

      pub cells_here : All (IsCell db.pool (kind_in cells column)) here
      cells_here = picked_cells db.pool (kind_in cells column) (cells_in cells column) whole.cells rows (subst (λ (n : ℕ). All (λ row. row < n) rows) (sym whole.height) rows_in_range)

      value_here : (k : ℕ) → k < length rows → get_or (map of_cell here) k (Int (pos 0)) ≡ value_at (tables_of db) entry column (get_or rows k 0)
      value_here k within =
          let at_row : ℕ → ℕ = λ row. get_or (cells_in cells column) row 0 in
          get_or-map of_cell here k 0 (Int (pos 0)) (omega (arith, within, length-map rows at_row))
          ∙ ap of_cell (get_or-map at_row rows k 0 0 within)
          ∙ sym (columns.value_at db.pool cells.rows cells.kinds cells.columns (cells_are db are differ entry there) (get_or rows k 0) column kind.Int [] (Int (pos 0)) (rows_in_range k 0 within) exists)

      many_here : length (map of_cell here) ≡ length rows
      many_here = length-map here of_cell ∙ length-map rows (λ (row : ℕ). get_or (cells_in cells column) row 0)

      pub values_here : map of_cell here ≡ values_at (tables_of db) entry column rows
      values_here =
          ext_get_or (Int (pos 0)) (map of_cell here) (values_at (tables_of db) entry column rows) (many_here ∙ sym (length-map rows (value_at (tables_of db) entry column))) (λ k within.
          let inside : k < length rows = omega (arith, within, many_here) in
          value_here k inside ∙ sym (get_or-map (value_at (tables_of db) entry column) rows k 0 (Int (pos 0)) inside))

      pub values_there : map of_cell here ≡ column_values (tables_at (tables_of db) rows) entry column
      values_there =
          let at : Tables = tables_at (tables_of db) rows in
          let row_of : ℕ → Row = λ row. slice_index_or (tables_of db entry) row [] in
          let same_length : row_counts at entry ≡ length rows = length-map rows row_of in
          fill_by_all (value_in_row at entry column) (map of_cell here) (row_counts at entry) (Int (pos 0)) (many_here ∙ sym same_length) (λ k within.
          let inside : k < length rows = omega (arith, within, same_length) in
          value_here k inside ∙ sym (ap (λ (r : Row). slice_index_or r column (Int (pos 0))) (get_or-map row_of rows k 0 [] inside)))

      pub column_at : cells_in (cells_at rows cells) column ≡ here
      column_at = get_or-map (picked rows) cells.columns column [] [] (omega (arith, exists, columns_long db.pool cells.rows cells.kinds cells.columns (cells_are db are differ entry there)))

  -- ---- a column of the other entry, in the paired rows

  module _ (entry other : ℕ) (there : entry < length db.slots) (other_there : other < length db.slots) (rows beside : List ℕ) (rows_in_range : AreRowNumbersOf (cells_of db entry) rows)
      (beside_in_range : AreRowNumbersOf (cells_of db other) beside) (same_length : length beside ≡ length rows) (accuracy column : ℕ) (exists : column < length (cells_of db other).kinds) where
    abbrev joined : List ℕ
    joined = picked beside (cells_in (cells_of db other) column)

    abbrev joined_kind : Kind
    joined_kind = kind_in (cells_of db other) column

    abbrev joined_values : List Value
    joined_values = values_at (tables_of db) other column beside

    are_joined : All (IsCell db.pool joined_kind) joined
    are_joined = cells_here other other_there beside beside_in_range column exists

    joined_are : map (value_of_cell db.pool joined_kind) joined ≡ joined_values
    joined_are = values_here other other_there beside beside_in_range column exists

    module _ (filter : ℕ) (has : filter < length (cells_of db entry).kinds) where
      abbrev filter_cells : List ℕ
      filter_cells = picked rows (cells_in (cells_of db entry) filter)

      abbrev filter_kind : Kind
      filter_kind = kind_in (cells_of db entry) filter

      abbrev filter_values : List Value
      filter_values = column_values (tables_at (tables_of db) rows) entry filter

      filter_are : map (value_of_cell db.pool filter_kind) filter_cells ≡ filter_values
      filter_are = values_there entry there rows rows_in_range filter has

      as_long : length filter_cells ≡ length joined
      as_long =
          length-map rows (λ (row : ℕ). get_or (cells_in (cells_of db entry) filter) row 0) ∙ sym same_length
          ∙ sym (length-map beside (λ (row : ℕ). get_or (cells_in (cells_of db other) column) row 0))

    pub lists_beside : AreListsOfKeys db.pool (cells_at rows (cells_of db entry)) accuracy joined (lists_over accuracy (column_values (tables_at (tables_of db) rows) entry) joined_values)
    lists_beside = record {
      whole = same_whole db.pool differ joined_kind joined_kind joined joined are_joined are_joined accuracy ∙ ap (λ (s : List Value). compressed_degrees accuracy (as_first_rows s)) joined_are;
      equal = λ filter value cell has stands.
          ap (λ (s : List ℕ). list_of_value accuracy (zip s joined) cell) (column_at entry there rows rows_in_range filter has)
          ∙ same_equal db.pool differ (filter_kind filter has) joined_kind (filter_cells filter has) joined (cells_here entry there rows rows_in_range filter has) are_joined accuracy value cell stands
          ∙ ap (λ (s : List Value). list_with accuracy s (map (value_of_cell db.pool joined_kind) joined) value) (filter_are filter has)
          ∙ ap (λ (s : List Value). list_with accuracy (filter_values filter has) s value) joined_are;
      range = λ range has.
          ap (λ (s : List ℕ). list_of_cells_between db.pool (filter_kind range.column has) accuracy (zip s joined) range.low range.high) (column_at entry there rows rows_in_range range.column has)
          ∙ same_range db.pool differ (filter_kind range.column has) joined_kind (filter_cells range.column has) joined (cells_here entry there rows rows_in_range range.column has) are_joined accuracy
          (as_long range.column has) range.low range.high
          ∙ ap (λ (s : List Value). list_between accuracy s (map (value_of_cell db.pool joined_kind) joined) range.low range.high) (filter_are range.column has)
          ∙ ap (λ (s : List Value). list_between accuracy (filter_values range.column has) s range.low range.high) joined_are;
    }
