-- The file that is made from the cells of new rows is equal to the file that is made from these rows' values.
use Rattle.std.proofs.Common.{◌≡◌, ℕ, ◌+◌, ◌<◌, ◌==◌, Bool, true, false, cond, List, [], ◌∷◌, length, map, get_or, refl, ap, sym, ◌∙◌, arith, inl, inr}
use Rattle.std.specs.List.{AllByRecursion, zip}
use Rattle.std.proofs.lemmas.Bool.{cases_Bool, eqb-true}
use Rattle.std.proofs.lemmas.List.Elements.{All-from_recursion}
use Rattle.csv_tables.specs.Cells.{IsColumn, rows_of_cells, value_of_cell}
use Rattle.csv_tables.specs.Rows.{Row}
use Rattle.csv_tables.specs.Values.{Value}
use Rattle.csv_tables.specs.declared.types.Cells.{Cells}
use Rattle.csv_tables.specs.declared.types.Database.{Database}
use Rattle.schema_types.specs.declared.types.Kind.{Kind}
use Rattle.schema_types.specs.declared.types.Kind.TheVariants as kind
use Rattle.level_bounds.specs.Keys.{HaveDifferentCharacters}
use Rattle.sql_meaning.specs.Databases.{AreCells, AreTables}
use Rattle.sql_meaning.proofs.LoopFacts.{rows_are}
use Rattle.stats_file.specs.declared.types.PairStats.{PairStats}
use Rattle.stats_file.specs.declared.types.TableStats.{TableStats}
use Rattle.table_stats.specs.Columns.{paired, value_of_row}
use Rattle.table_stats.proofs.DatabaseColumns.{column_is, values_are}
use Rattle.stats_file_of_query.specs.Pairs.{pair_in_cells, pair_in_table, pair_of_values}
use Rattle.stats_file_of_query.proofs.SameValues.{pair_is}
use Rattle.appended_stats.specs.Appended.{tables_of_rows, pair_after, section_after, values_in}
use Rattle.appended_stats.specs.Cells.{grown_by_cells, section_after_by_cells, pair_by_cells, section_by_cells}
use Rattle.appended_stats.specs.Grown.{grown_pair}
use Rattle.appended_stats.proofs.SameRows.{grown_is}

module _ (texts : List (List ℕ)) (differ : HaveDifferentCharacters texts) (cells : Cells) (are : AreCells texts cells) where
  -- a database with the new cells as its only table, so that lemmas about cells in a database apply
  abbrev db : Database
  db = record { pool = texts; cells = cells ∷ []; slots = 0 ∷ [] }

  in_order : AreTables db
  in_order = record {
    cells = All-from_recursion (AreCells texts) (cells ∷ []) (are, tt);
    slots = All-from_recursion (λ slot. slot < 1) (0 ∷ []) (omega arith, tt);
  }

  abbrev rows : List Row
  rows = rows_of_cells texts cells

  pub as_many : length rows ≡ cells.rows
  as_many = rows_are db 0

  abbrev kind_at : ℕ → Kind
  kind_at column = get_or cells.kinds column kind.Int

  abbrev cells_at : ℕ → List ℕ
  cells_at column = get_or cells.columns column []

  abbrev Exists : ℕ → Type 0
  Exists column = column < length cells.kinds

  column_there : (column : ℕ) → Exists column → IsColumn texts cells.rows (kind_at column) (cells_at column)
  column_there column exists = column_is db in_order differ 0 (omega arith) column exists

  values_there : (column : ℕ) → Exists column → map (value_of_cell texts (kind_at column)) (cells_at column) ≡ values_in rows column
  values_there column exists = values_are db in_order differ 0 (omega arith) column exists

  module _ (accuracy filter joined : ℕ) (has_filter : Exists filter) (has_joined : Exists joined) where
    filter_is_column : IsColumn texts cells.rows (kind_at filter) (cells_at filter)
    filter_is_column = column_there filter has_filter

    joined_is_column : IsColumn texts cells.rows (kind_at joined) (cells_at joined)
    joined_is_column = column_there joined has_joined

    first_same : pair_in_cells texts cells accuracy filter joined ≡ pair_in_table (tables_of_rows rows) accuracy 0 filter joined
    first_same =
        pair_is texts differ (kind_at filter) (kind_at joined) (cells_at filter) (cells_at joined) filter_is_column.cells joined_is_column.cells (filter_is_column.height ∙ sym joined_is_column.height) accuracy filter joined
        ∙ ap (λ (s : List Value). pair_of_values accuracy s (map (value_of_cell texts (kind_at joined)) (cells_at joined)) filter joined) (values_there filter has_filter)
        ∙ ap (λ (s : List Value). pair_of_values accuracy (values_in rows filter) s filter joined) (values_there joined has_joined)

    more_same : (pair : PairStats) → grown_pair (value_of_cell texts (kind_at filter)) accuracy (zip (cells_at filter) (cells_at joined)) pair
        ≡ grown_pair (value_of_row (values_in rows filter)) accuracy (paired (values_in rows filter) (values_in rows joined)) pair
    more_same pair =
        grown_is texts differ (kind_at filter) (kind_at joined) (cells_at filter) (cells_at joined) filter_is_column.cells joined_is_column.cells (filter_is_column.height ∙ sym joined_is_column.height) accuracy pair
        ∙ ap (λ (s : List Value). grown_pair (value_of_row s) accuracy (paired s (map (value_of_cell texts (kind_at joined)) (cells_at joined))) pair) (values_there filter has_filter)
        ∙ ap (λ (s : List Value). grown_pair (value_of_row (values_in rows filter)) accuracy (paired (values_in rows filter) s) pair) (values_there joined has_joined)

  pub pair_same : (accuracy before : ℕ) (pair : PairStats) → Exists pair.filter → Exists pair.joined → pair_by_cells texts cells accuracy before pair ≡ pair_after accuracy before rows pair
  pair_same accuracy before pair has_filter has_joined = by (before == 0)
    where
      by : (b : Bool) → cond b (pair_in_cells texts cells accuracy pair.filter pair.joined) (grown_by_cells texts cells accuracy pair)
          ≡ cond b (pair_in_table (tables_of_rows rows) accuracy 0 pair.filter pair.joined)
          (grown_pair (value_of_row (values_in rows pair.filter)) accuracy (paired (values_in rows pair.filter) (values_in rows pair.joined)) pair)
      by true = first_same accuracy pair.filter pair.joined has_filter has_joined
      by false = more_same accuracy pair.filter pair.joined has_filter has_joined pair

  abbrev HasColumns : PairStats → Type 0
  HasColumns pair = Exists pair.filter × Exists pair.joined

  pairs_same : (accuracy before : ℕ) (pairs : List PairStats) → AllByRecursion HasColumns pairs
      → map (pair_by_cells texts cells accuracy before) pairs ≡ map (pair_after accuracy before rows) pairs
  pairs_same accuracy before [] all = refl
  pairs_same accuracy before (pair ∷ pairs) all =
      ap (λ (p : PairStats). p ∷ map (pair_by_cells texts cells accuracy before) pairs) (pair_same accuracy before pair all.0.0 all.0.1)
      ∙ ap (λ (s : List PairStats). pair_after accuracy before rows pair ∷ s) (pairs_same accuracy before pairs all.1)

  section_parts : (table many many' : ℕ) (pairs pairs' : List PairStats) → many ≡ many' → pairs ≡ pairs'
      → (let s : TableStats = record { table = table; rows = many; pairs = pairs } in s) ≡ record { table = table; rows = many'; pairs = pairs' }
  section_parts table many many' pairs pairs' h k = rw (h, k) refl

  pub section_same : (accuracy : ℕ) (section : TableStats) → AllByRecursion HasColumns section.pairs
      → section_by_cells texts cells accuracy section ≡ section_after accuracy rows section
  section_same accuracy section all =
      section_parts section.table (section.rows + cells.rows) (section.rows + length rows) (map (pair_by_cells texts cells accuracy section.rows) section.pairs)
      (map (pair_after accuracy section.rows rows) section.pairs) (ap (λ n. section.rows + n) (sym as_many)) (pairs_same accuracy section.rows section.pairs all)

  module _ (accuracy table : ℕ) where
    abbrev pub section_after_append : TableStats → TableStats
    section_after_append section = cond (section.table == table) (section_after accuracy rows section) section

    abbrev pub HasColumnsWhere : TableStats → Type 0
    HasColumnsWhere section = section.table ≡ table → AllByRecursion HasColumns section.pairs

    section_same_by_cells : (section : TableStats) → HasColumnsWhere section → section_after_by_cells texts cells accuracy table section ≡ section_after_append section
    section_same_by_cells section has = elim (cases_Bool (section.table == table)) [
      | inl e ↦ (let its = section_same accuracy section (has (eqb-true section.table table e)) in rw e its)
      | inr e ↦ rw e refl
    ]

    pub sections_same : (sections : List TableStats) → AllByRecursion HasColumnsWhere sections
        → map (section_after_by_cells texts cells accuracy table) sections ≡ map section_after_append sections
    sections_same [] all = refl
    sections_same (section ∷ sections) all =
        ap (λ (s : TableStats). s ∷ map (section_after_by_cells texts cells accuracy table) sections) (section_same_by_cells section all.0)
        ∙ ap (λ (s : List TableStats). section_after_append section ∷ s) (sections_same sections all.1)
