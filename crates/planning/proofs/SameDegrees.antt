-- Cells of rows have the same degree list as the values of the cells.
use Rattle.std.proofs.Common.{◌≡◌, ℕ, ◌<◌, true, List, length, map, get_or, pos, refl, ap, sym, ◌∙◌, arith}
use Rattle.std.specs.Prelude.{All, slice_index}
use Rattle.std.specs.List.{Contains}
use Rattle.std.proofs.lemmas.List.{get_or-map, length-map}
use Rattle.std.proofs.lemmas.List.Elements.{All-contains}
use Rattle.schema_types.specs.declared.types.Kind.{Kind}
use Rattle.schema_types.specs.declared.types.Kind.TheVariants as kind
use Rattle.csv_tables.specs.Cells.{IsCell, value_of_cell}
use Rattle.csv_tables.specs.Values.{Value, Int}
use Rattle.csv_tables.specs.declared.types.Database.{Database}
use Rattle.query_types.specs.declared.types.ColumnRef.{ColumnRef}
use Rattle.cond_stats.specs.Lists.{compressed_degrees}
use Rattle.degree_sequences.specs.Compression.{compressed}
use Rattle.degree_sequences.specs.Degrees.{degree_list}
use Rattle.filtered_lists.specs.Standing.{value_in_row}
use Rattle.level_bounds.specs.Keys.{HaveDifferentCharacters}
use Rattle.level_bounds.proofs.CellKeys.{equal_cells}
use Rattle.level_bounds.proofs.Lists.{map_of_map}
use Rattle.relabelling_laws.specs.Relabelling.{AreEqualAlike}
use Rattle.relabelling_laws.proofs.Dominated.{same_degrees}
use Rattle.sql_meaning.specs.Databases.{AreTables, IsColumnOf}
use Rattle.sql_meaning.specs.Tables.{cells_of, tables_of}
use Rattle.join_steps.specs.Columns.{column_cells}
use Rattle.join_steps.proofs.Cells.{cell_of_row, value_by_cell}
use Rattle.table_stats.specs.Columns.{first_row, as_first_rows}
use Rattle.table_stats.proofs.EqualValues.{equal_itself, is_equal}
use Rattle.table_stats.proofs.FirstRows.{equal_firsts, first_row_exists}

module _ (db : Database) (are : AreTables db) (differ : HaveDifferentCharacters db.pool) (column : ColumnRef) (there : IsColumnOf db column)
    (rows : List ℕ) (low : All (λ row. row < (cells_of db column.from).rows) rows) where
  abbrev kind_here : Kind
  kind_here = get_or (cells_of db column.from).kinds column.column kind.Int

  abbrev value_of : ℕ → Value
  value_of row = value_in_row (tables_of db) column.from column.column row

  abbrev values : List Value
  values = map value_of rows

  abbrev cell_of : ℕ → ℕ
  cell_of row = slice_index (column_cells db column) row

  abbrev number_of : ℕ → ℕ
  number_of row = first_row values (value_of row)

  listed_row_in_range : (row : ℕ) → Contains rows row → row < (cells_of db column.from).rows
  listed_row_in_range row has = All-contains (λ r. r < (cells_of db column.from).rows) rows row low has

  value_is : (row : ℕ) → Contains rows row → value_of row ≡ value_of_cell db.pool kind_here (cell_of row)
  value_is row has = value_by_cell db column (λ e. row) are there (listed_row_in_range row has)

  is_cell : (row : ℕ) → Contains rows row → IsCell db.pool kind_here (cell_of row)
  is_cell row has = cell_of_row db column row are there (listed_row_in_range row has)

  has_first : (row : ℕ) → Contains rows row → number_of row < length values
  has_first row has =
      let at : get_or values has.0 (Int (pos 0)) ≡ value_of row = get_or-map value_of rows has.0 row (Int (pos 0)) has.1 ∙ ap value_of has.2 in
      first_row_exists values (value_of row) has.0 (Int (pos 0)) (omega (arith, has.1, length-map rows value_of))
      (ap (λ (v : Value). is_equal v (value_of row)) at ∙ equal_itself (value_of row))

  cells_equal : (i j : ℕ) → Contains rows i → Contains rows j → number_of i ≡ number_of j → cell_of i ≡ cell_of j
  cells_equal i j has_i has_j same =
      let equal : is_equal (value_of i) (value_of j) ≡ true = equal_firsts values (value_of i) (value_of j) (has_first i has_i) same in
      equal_cells db.pool differ kind_here kind_here (cell_of i) (cell_of j) (is_cell i has_i) (is_cell j has_j)
      (ap (λ (v : Value). is_equal v (value_of_cell db.pool kind_here (cell_of j))) (sym (value_is i has_i))
      ∙ ap (λ (v : Value). is_equal (value_of i) v) (sym (value_is j has_j)) ∙ equal)

  numbers_equal : (i j : ℕ) → Contains rows i → Contains rows j → cell_of i ≡ cell_of j → number_of i ≡ number_of j
  numbers_equal i j has_i has_j same =
      ap (first_row values) (value_is i has_i ∙ ap (value_of_cell db.pool kind_here) same ∙ sym (value_is j has_j))

  alike : AreEqualAlike cell_of number_of rows
  alike i j has_i has_j = (numbers_equal i j has_i has_j, cells_equal i j has_i has_j)

  numbers_are : as_first_rows values ≡ map number_of rows
  numbers_are = map_of_map (first_row values) value_of number_of (λ row. refl) rows

  pub degrees_are : degree_list (map cell_of rows) ≡ degree_list (as_first_rows values)
  degrees_are = same_degrees cell_of number_of rows alike ∙ ap degree_list (sym numbers_are)

  pub list_is : (accuracy : ℕ) (keys degrees list : List ℕ) → keys ≡ map cell_of rows → degrees ≡ degree_list keys → list ≡ compressed accuracy degrees
      → list ≡ compressed_degrees accuracy (as_first_rows values)
  list_is accuracy keys degrees list keys_are degrees_are_of list_is_of =
      list_is_of ∙ ap (compressed accuracy) (degrees_are_of ∙ ap degree_list keys_are ∙ degrees_are)
