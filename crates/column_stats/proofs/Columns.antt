-- The kinds and cells that the code reads are those of the pair's columns, so it makes their statistics.
use Rattle.std.proofs.Common.{◌≡◌, ℕ, List, [], length, Some, refl, ap, sym, ◌∙◌, subst, arith}
use Rattle.std.specs.Prelude.{slice_get}
use Rattle.std.specs.List.{All, zip}
use Rattle.std.proofs.lemmas.Option.{get_or_from_slice_get}
use Rattle.std.proofs.lemmas.Slice.Zip.{firsts-zip, length-zip, seconds-zip}
use Rattle.schema_types.specs.declared.types.Kind.{Kind}
use Rattle.schema_types.specs.declared.types.Kind.TheVariants as kind
use Rattle.csv_tables.specs.declared.types.Cells.{Cells}
use Rattle.csv_tables.specs.Cells.{IsCell}
use Rattle.cond_stats.specs.Columns.{CellColumn, cell_le}
use Rattle.cond_stats.specs.Leaves.{cuts}
use Rattle.cond_stats.specs.Lists.{compressed_degrees, rest}
use Rattle.cond_stats.specs.Rows.{filter_values, joined_keys}
use Rattle.column_stats.specs.declared.stats.ColumnStats.{ColumnStats}
use Rattle.column_stats.specs.declared.stats.FrequentList.{FrequentList}
use Rattle.column_stats.specs.Nodes.{node_lists}
use Rattle.column_stats.specs.Stats.{frequent_lists, stats_of}
use Rattle.column_stats.specs.Pairs.{HasColumn, cells_of_column, kind_of_column, rows_of_pair}

module _ (texts : List (List ℕ)) (cells : Cells) (column : ℕ) (column_exists : HasColumn texts cells column) where
  pub kind_read : (k : Kind) → slice_get cells.kinds column ≡ Some k → kind_of_column cells column ≡ k
  kind_read k at = get_or_from_slice_get cells.kinds column k kind.Int at

  pub cells_read : (items read : List ℕ) → slice_get cells.columns column ≡ Some items → read ≡ items → read ≡ cells_of_column cells column
  cells_read items read there same = same ∙ sym (get_or_from_slice_get cells.columns column items [] there)

  pub length_read : (read : List ℕ) → read ≡ cells_of_column cells column → length read ≡ cells.rows
  length_read read is = ap (λ (s : List ℕ). length s) is ∙ column_exists.are_cells.height

  pub are_read : (k : Kind) (read : List ℕ) → kind_of_column cells column ≡ k → read ≡ cells_of_column cells column → All (IsCell texts k) read
  are_read k read kind_is is = subst (λ (s : List ℕ). All (IsCell texts k) s) (sym is) (subst (λ (x : Kind). All (IsCell texts x) (cells_of_column cells column)) kind_is column_exists.are_cells.cells)

module _ (texts : List (List ℕ)) (cells : Cells) (filter joined : ℕ) (has_filter : HasColumn texts cells filter) (has_joined : HasColumn texts cells joined) where
  pub rows_are : length (rows_of_pair cells filter joined) ≡ cells.rows
  rows_are = omega (arith, length-zip (cells_of_column cells filter) (cells_of_column cells joined), has_filter.are_cells.height, has_joined.are_cells.height)

  pub made_are : (k : ℕ) (kind_got : Kind) (values keys : List ℕ) (column : CellColumn) → kind_got ≡ kind_of_column cells filter → values ≡ cells_of_column cells filter
      → keys ≡ cells_of_column cells joined → column ≡ record { texts = texts; kind = kind_got; cells = values }
      → stats_of column.texts column.kind k (zip column.cells keys) ≡ stats_of texts (kind_of_column cells filter) k (rows_of_pair cells filter joined)
  made_are k kind_got values keys column kind_is values_are keys_are column_is = rw (column_is, kind_is, values_are, keys_are) refl

pub sorted_are : (k count : ℕ) (column : CellColumn) (keys : List ℕ) (kind_got : Kind) (all : List ℕ) (frequents : List FrequentList) (others places : List ℕ)
    (nodes_got : List (List ℕ)) → length keys ≡ length column.cells → kind_got ≡ column.kind → count ≡ length keys → all ≡ compressed_degrees k keys
    → frequents ≡ frequent_lists k (zip column.cells keys) → others ≡ rest k (zip column.cells keys) → places ≡ cuts (cell_le column.texts column.kind) column.cells
    → nodes_got ≡ node_lists (cell_le column.texts column.kind) k (zip column.cells keys)
    → (let stats : ColumnStats = record { kind = kind_got; rows = count; whole = all; frequent = frequents; rest = others; cuts = places; nodes = nodes_got } in stats)
    ≡ stats_of column.texts column.kind k (zip column.cells keys)
sorted_are k count column keys kind_got all frequents others places nodes_got as_high kind_is count_is all_is frequents_are others_are places_are nodes_are =
    let firsts : filter_values (zip column.cells keys) ≡ column.cells = firsts-zip column.cells keys as_high in
    let seconds : joined_keys (zip column.cells keys) ≡ keys = seconds-zip column.cells keys as_high in
    let rows : length (zip column.cells keys) ≡ length keys = omega (arith, length-zip column.cells keys, as_high) in
    rw (all_is, frequents_are, others_are, places_are, nodes_are, kind_is, count_is, seconds, firsts, rows) refl
