-- The list that the code makes for a literal or a range is the one that the lists of the keys (`AreListsOfKeys`) have for it.
use Rattle.std.proofs.Common.{◌≡◌, ℕ, ◌+◌, ◌<◌, ◌≤◌, ◌^◌, List, [], ◌∷◌, ◌++◌, map, length, take, get_or, sum, Option, Some, option_map, refl, ap, sym, ◌∙◌, subst, arith}
use Rattle.std.specs.Prelude.{unwrap_or, slice_get}
use Rattle.std.specs.List.{All, zip}
use Rattle.std.proofs.lemmas.Option.{get_or_from_slice_get}
use Rattle.std.proofs.lemmas.List.{map-append, take_more}
use Rattle.schema_types.specs.declared.types.Kind.{Kind}
use Rattle.schema_types.specs.declared.types.Kind.TheVariants as kind
use Rattle.csv_tables.specs.declared.types.Cells.{Cells}
use Rattle.csv_tables.specs.Cells.{IsCell, IsColumn}
use Rattle.csv_tables.specs.Values.{Value}
use Rattle.cond_stats.specs.Columns.{CellColumn, cell_le, leaf_of_value}
use Rattle.cond_stats.specs.Leaves.{node_size}
use Rattle.cond_stats.specs.Lists.{list_of_range, list_of_value}
use Rattle.cond_stats.specs.Rows.{filter_values}
use Rattle.cond_stats.proofs.OnDemand.{filter_values-zip}
use Rattle.filtered_lists.specs.Lists.{ColumnLists}
use Rattle.filtered_lists.specs.Ranges.{Range}
use Rattle.predicate_bounds.specs.declared.running.ListStep.{ListStep}
use Rattle.predicate_bounds.specs.declared.steps.Step.{Step}
use Rattle.predicate_bounds.specs.ListRuns.{with_list}
use Rattle.sql_meaning.specs.Databases.{AreCells}
use Rattle.sql_meaning.proofs.ColumnFacts.{column_at}
use Rattle.table_stats.specs.Cells.{IsCellFor}
use Rattle.csv_tables.proofs.TableFacts.{columns_long}
use Rattle.gathered_stats.specs.Columns.{AreListsOfKeys, cells_in, kind_in}
use Rattle.gathered_stats.specs.Filters.{IsColumnIn}
use Rattle.gathered_stats.proofs.Sizes.{node_within, value_within, zipped_within}

module _ (texts : List (List ℕ)) (cells : Cells) where
  pub columns_of_kinds : AreCells texts cells → (column : ℕ) → column < length cells.kinds → column < length cells.columns
  columns_of_kinds are column low = omega (arith, low, columns_long texts cells.rows cells.kinds cells.columns are)

  module _ (are : AreCells texts cells) (column : ℕ) (column_exists : column < length cells.kinds) (k : Kind) (items read : List ℕ)
      (at : slice_get cells.kinds column ≡ Some k) (there : slice_get cells.columns column ≡ Some items) (same : read ≡ items) where
    kind_is : kind_in cells column ≡ k
    kind_is = get_or_from_slice_get cells.kinds column k kind.Int at

    cells_are : read ≡ cells_in cells column
    cells_are = same ∙ sym (get_or_from_slice_get cells.columns column items [] there)

    whole_column : IsColumn texts cells.rows (kind_in cells column) (cells_in cells column)
    whole_column = column_at texts cells.rows cells.kinds cells.columns are column kind.Int [] column_exists

    pub read_cells : All (IsCell texts k) read
    read_cells = subst (λ (s : List ℕ). All (IsCell texts k) s) (sym cells_are) (subst (λ (x : Kind). All (IsCell texts x) (cells_in cells column)) kind_is whole_column.cells)

    pub read_rows : length read ≡ cells.rows
    read_rows = ap (λ (s : List ℕ). length s) cells_are ∙ whole_column.height

    pub read_column : (sorted : CellColumn) → sorted ≡ record { texts = texts; kind = k; cells = read } → IsColumnIn texts cells column sorted
    read_column sorted is = record { exists = column_exists; is = is ∙ column_is k (kind_in cells column) read (cells_in cells column) (sym kind_is) cells_are }
      where
        column_is : (k l : Kind) (r s : List ℕ) → k ≡ l → r ≡ s → (let c : CellColumn = record { texts = texts; kind = k; cells = r } in c) ≡ record { texts = texts; kind = l; cells = s }
        column_is k l r s h i = rw (h, i) refl

  pub column_length : AreCells texts cells → (column : ℕ) (sorted : CellColumn) → IsColumnIn texts cells column sorted → length sorted.cells ≡ cells.rows
  column_length are column sorted is =
      ap (λ (s : CellColumn). length s.cells) is.is ∙ (column_at texts cells.rows cells.kinds cells.columns are column kind.Int [] is.exists).height

  pub keys_as_long_as_column : AreCells texts cells → (column : ℕ) (sorted : CellColumn) (keys : List ℕ) → IsColumnIn texts cells column sorted → length keys ≡ cells.rows → length keys ≡ length sorted.cells
  keys_as_long_as_column are column sorted keys is high = high ∙ sym (column_length are column sorted is)

  module _ (accuracy : ℕ) (keys : List ℕ) (lists : ColumnLists) (have : AreListsOfKeys texts cells accuracy keys lists) where
    pub literal_list : (column : ℕ) (value : Value) (cell : Option ℕ) (sorted : CellColumn) (list : List ℕ) → IsColumnIn texts cells column sorted
        → IsCellFor texts (kind_in cells column) value cell → list ≡ list_of_value accuracy (zip sorted.cells keys) cell → list ≡ lists.equal column value
    literal_list column value cell sorted list is stands made =
        made ∙ ap (λ (s : CellColumn). list_of_value accuracy (zip s.cells keys) cell) is.is ∙ have.equal column value cell is.exists stands

    pub range_list : AreCells texts cells → length keys ≡ cells.rows → (range : Range) (sorted : CellColumn) (low high : Option ℕ) (list : List ℕ) → IsColumnIn texts cells range.column sorted
        → low ≡ option_map (leaf_of_value sorted.texts sorted.kind sorted.cells) range.low → high ≡ option_map (leaf_of_value sorted.texts sorted.kind sorted.cells) range.high
        → list ≡ list_of_range (cell_le sorted.texts sorted.kind) accuracy (zip sorted.cells keys) low high → list ≡ lists.range range
    range_list are tall range sorted low high list is low_is high_is made =
        let k : Kind = kind_in cells range.column in
        let column : List ℕ = cells_in cells range.column in
        let values : filter_values (zip column keys) ≡ column =
        filter_values-zip column keys (tall ∙ sym (column_at texts cells.rows cells.kinds cells.columns are range.column kind.Int [] is.exists).height) in
        let end_is : (end : Option Value) → option_map (leaf_of_value sorted.texts sorted.kind sorted.cells) end ≡ option_map (leaf_of_value texts k (filter_values (zip column keys))) end =
        λ end. ap (λ (s : CellColumn). option_map (leaf_of_value s.texts s.kind s.cells) end) is.is ∙ ap (λ (s : List ℕ). option_map (leaf_of_value texts k s) end) (sym values) in
        made ∙ ap (λ (s : CellColumn). list_of_range (cell_le s.texts s.kind) accuracy (zip s.cells keys) low high) is.is
        ∙ ap (λ (o : Option ℕ). list_of_range (cell_le texts k) accuracy (zip column keys) o high) (low_is ∙ end_is range.low)
        ∙ ap (λ (o : Option ℕ). list_of_range (cell_le texts k) accuracy (zip column keys) (option_map (leaf_of_value texts k (filter_values (zip column keys))) range.low) o) (high_is ∙ end_is range.high)
        ∙ have.range range is.exists

-- ---- no list sums to more than 2^32

pub literal_list_within_limit : (accuracy n : ℕ) (filter keys list : List ℕ) (cell : Option ℕ) → length keys ≡ n → n < 2 ^ 32 → list ≡ list_of_value accuracy (zip filter keys) cell → sum list ≤ 2 ^ 32
literal_list_within_limit accuracy n filter keys list cell tall small made =
    omega (arith, ap sum made, value_within accuracy (zip filter keys) cell, zipped_within filter keys n (omega (arith, tall)), small)

pub range_list_within_limit : (accuracy n : ℕ) (texts : List (List ℕ)) (k : Kind) (filter keys list : List ℕ) (low high : Option ℕ) → length keys ≡ n → n < 2 ^ 32
    → list ≡ list_of_range (cell_le texts k) accuracy (zip filter keys) low high → sum list ≤ 2 ^ 32
range_list_within_limit accuracy n texts k filter keys list low high tall small made =
    omega (arith, ap sum made, node_within accuracy (zip filter keys) (cell_le texts k) (node_size (unwrap_or low 0) (unwrap_or high 31)) (unwrap_or low 0), zipped_within filter keys n (omega (arith, tall)), small)

-- ---- the loop that makes the list of each step

pub list_one_more_step : (lists : ColumnLists) (steps : List Step) (i : ℕ) (step : Step) (old new : List ListStep) (one : ListStep) → i < length steps → step ≡ get_or steps i step
    → old ≡ map (with_list lists) (take i steps) → one ≡ with_list lists step → new ≡ old ++ one ∷ [] → new ≡ map (with_list lists) (take (i + 1) steps)
list_one_more_step lists steps i step old new one low at before here pushed =
    pushed ∙ ap (λ (s : List ListStep). s ++ one ∷ []) before ∙ ap (λ (l : ListStep). map (with_list lists) (take i steps) ++ l ∷ []) (here ∙ ap (with_list lists) at)
    ∙ sym (ap (map (with_list lists)) (take_more steps i step low) ∙ map-append (with_list lists) (take i steps) (get_or steps i step ∷ []))
