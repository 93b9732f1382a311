-- The code makes the statistics of a pair in steps. The lemmas say what each step returns.
use Rattle.std.proofs.Common.{◌≡◌, ℕ, ◌<◌, List, [], length, map, Some, slice_get, refl, ap, sym, ◌∙◌, subst, arith}
use Rattle.std.specs.List.{All, AllByRecursion, zip}
use Rattle.std.proofs.lemmas.List.Elements.{All-from_recursion, All-map, recursion_from_All}
use Rattle.std.proofs.lemmas.Option.{get_or_from_slice_get}
use Rattle.schema_types.specs.declared.types.Kind.{Kind}
use Rattle.schema_types.specs.declared.types.Kind.TheVariants as kind
use Rattle.csv_tables.specs.Cells.{IsCell, IsColumn, value_of_cell}
use Rattle.csv_tables.specs.declared.types.Cells.{Cells}
use Rattle.cond_stats.specs.Columns.{CellColumn, cell_le}
use Rattle.cond_stats.specs.Frequency.{frequent}
use Rattle.cond_stats.specs.Leaves.{cuts}
use Rattle.cond_stats.specs.Rows.{filter_values}
use Rattle.column_stats.specs.declared.stats.ColumnStats.{ColumnStats}
use Rattle.column_stats.specs.declared.stats.FrequentList.{FrequentList}
use Rattle.column_stats.specs.Stats.{frequent_list, stats_of}
use Rattle.gathered_stats.specs.Columns.{cells_in, kind_in}
use Rattle.gathered_stats.specs.Filters.{IsColumnIn}
use Rattle.relabelling_laws.proofs.Ordered.{All-cuts, All-frequent}
use Rattle.relabelling_laws.proofs.Rows.{zip_of_columns}
use Rattle.sql_meaning.specs.Databases.{AreCells}
use Rattle.csv_tables.proofs.TableFacts.{columns_long}
use Rattle.sql_meaning.proofs.ColumnFacts.{column_at}
use Rattle.stats_file.specs.declared.types.Datum.{Datum}
use Rattle.stats_file.specs.declared.types.PairStats.{PairStats}
use Rattle.stats_file_of_query.specs.Data.{datum_of}
use Rattle.stats_file_of_query.specs.Pairs.{frequent_in, pair_in_cells}

-- ---- columns as the code reads them

module _ (texts : List (List ℕ)) (cells : Cells) (are : AreCells texts cells) (column : ℕ) (column_exists : column < length cells.kinds) where
  pub its_kind : (k : Kind) → slice_get cells.kinds column ≡ Some k → kind_in cells column ≡ k
  its_kind k at = get_or_from_slice_get cells.kinds column k kind.Int at

  pub its_cells : (items read : List ℕ) → slice_get cells.columns column ≡ Some items → read ≡ items → read ≡ cells_in cells column
  its_cells items read at same = same ∙ sym (get_or_from_slice_get cells.columns column items [] at)

  pub column_in_columns : column < length cells.columns
  column_in_columns = omega (arith, columns_long texts cells.rows cells.kinds cells.columns are, column_exists)

  pub its_column : IsColumn texts cells.rows (kind_in cells column) (cells_in cells column)
  its_column = column_at texts cells.rows cells.kinds cells.columns are column kind.Int [] column_exists

  pub column_length : (read : List ℕ) → read ≡ cells_in cells column → length read ≡ cells.rows
  column_length read is = ap (λ (s : List ℕ). length s) is ∙ its_column.height

  pub are_its : (k : Kind) (read : List ℕ) → kind_in cells column ≡ k → read ≡ cells_in cells column → All (IsCell texts k) read
  are_its k read kind_is is = subst (λ (s : List ℕ). All (IsCell texts k) s) (sym is) (subst (λ (x : Kind). All (IsCell texts x) (cells_in cells column)) kind_is its_column.cells)

  pub column_in : (column_is : CellColumn) (k : Kind) (read : List ℕ) → kind_in cells column ≡ k → read ≡ cells_in cells column
      → column_is ≡ record { texts = texts; kind = k; cells = read } → IsColumnIn texts cells column column_is
  column_in column_is k read kind_is is made = record { exists = column_exists; is = rw (made, sym kind_is, is) refl }

-- ---- the cells in the statistics of a column are cells of its kind

module _ (texts : List (List ℕ)) (k : Kind) (filter joined : List ℕ) (are : All (IsCell texts k) filter) (same_length : length filter ≡ length joined) (accuracy : ℕ) where
  firsts : filter_values (zip filter joined) ≡ filter
  firsts = (zip_of_columns filter joined same_length).0

  own : AllByRecursion (IsCell texts k) filter
  own = recursion_from_All (IsCell texts k) filter are

  pub frequent_are : All (λ (found : FrequentList). IsCell texts k found.cell) (stats_of texts k accuracy (zip filter joined)).frequent
  frequent_are =
      All-map (λ (found : FrequentList). IsCell texts k found.cell) (frequent_list accuracy (zip filter joined)) (frequent (filter_values (zip filter joined)))
      (subst (λ (s : List ℕ). All (IsCell texts k) (frequent s)) (sym firsts) (All-from_recursion (IsCell texts k) (frequent filter) (All-frequent (IsCell texts k) filter own)))

  pub cuts_are : All (IsCell texts k) (stats_of texts k accuracy (zip filter joined)).cuts
  cuts_are =
      subst (λ (s : List ℕ). All (IsCell texts k) (cuts (cell_le texts k) s)) (sym firsts)
      (All-from_recursion (IsCell texts k) (cuts (cell_le texts k) filter)
      (All-cuts (IsCell texts k) (cell_le texts k) (cell_le texts k) (λ cell. cell) (λ a b has_a has_b. refl) filter own))

-- ---- the sorted filter column, and its statistics for a joined column

module _ (texts : List (List ℕ)) (cells : Cells) (are : AreCells texts cells) (filter joined : ℕ) (sorted : CellColumn) (is : IsColumnIn texts cells filter sorted)
    (has_joined : joined < length cells.kinds) (k : Kind) (kind_is : kind_in cells filter ≡ k) (keys : List ℕ) (keys_are : keys ≡ cells_in cells joined) (accuracy : ℕ) where
  pub sorted_kind : k ≡ sorted.kind
  sorted_kind = sym kind_is ∙ sym (ap (λ (s : CellColumn). s.kind) is.is)

  pub sorted_length : length keys ≡ length sorted.cells
  sorted_length =
      column_length texts cells are joined has_joined keys keys_are ∙ sym (its_column texts cells are filter is.exists).height
      ∙ ap (λ (s : CellColumn). length s.cells) (sym is.is)

  abbrev made : ColumnStats
  made = stats_of sorted.texts sorted.kind accuracy (zip sorted.cells keys)

  abbrev defined_stats : ColumnStats
  defined_stats = stats_of texts k accuracy (zip (cells_in cells filter) keys)

  made_is : made ≡ defined_stats
  made_is = rw (is.is, kind_is) refl

  filter_length : length (cells_in cells filter) ≡ length keys
  filter_length = (its_column texts cells are filter is.exists).height ∙ sym (column_length texts cells are joined has_joined keys keys_are)

  own_cells : All (IsCell texts k) (cells_in cells filter)
  own_cells = are_its texts cells are filter is.exists k (cells_in cells filter) kind_is refl

  pub made_frequent : (stats : ColumnStats) (read : List FrequentList) → stats ≡ made → read ≡ stats.frequent → All (λ (found : FrequentList). IsCell texts k found.cell) read
  made_frequent stats read stats_is read_is =
      subst (λ (s : List FrequentList). All (λ (found : FrequentList). IsCell texts k found.cell) s) (sym (read_is ∙ ap (λ (s : ColumnStats). s.frequent) (stats_is ∙ made_is)))
      (frequent_are texts k (cells_in cells filter) keys own_cells filter_length accuracy)

  pub made_cuts : (stats : ColumnStats) (read : List ℕ) → stats ≡ made → read ≡ stats.cuts → All (IsCell texts k) read
  made_cuts stats read stats_is read_is =
      subst (λ (s : List ℕ). All (IsCell texts k) s) (sym (read_is ∙ ap (λ (s : ColumnStats). s.cuts) (stats_is ∙ made_is)))
      (cuts_are texts k (cells_in cells filter) keys own_cells filter_length accuracy)

  abbrev value : ℕ → Datum
  value cell = datum_of (value_of_cell texts k cell)

  pub pair_made : (stats : ColumnStats) (frequent_read : List FrequentList) (cuts_read : List ℕ) (values : List (Datum × List ℕ)) (ends : List Datum) → stats ≡ made
      → frequent_read ≡ stats.frequent → cuts_read ≡ stats.cuts → values ≡ map (frequent_in value) frequent_read → ends ≡ map value cuts_read
      → (let p : PairStats = record { filter = filter; joined = joined; whole = stats.whole; frequent = values; rest = stats.rest; cuts = ends; nodes = stats.nodes } in p)
      ≡ pair_in_cells texts cells accuracy filter joined
  pair_made stats frequent_read cuts_read values ends stats_is read_is also_is values_are ends_are =
      rw (values_are, ends_are, read_is, also_is, stats_is ∙ made_is, sym kind_is, keys_are) refl
