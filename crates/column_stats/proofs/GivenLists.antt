-- Which lists the statistics give for values and ranges, and which keys these lists dominate.
use Rattle.std.proofs.Common.{◌≡◌, ℕ, ◌<◌, ◌≤◌, Bool, eqb, leb, List, [], ◌∷◌, length, Option, None, Some, refl, ap, sym, subst, arith, inl, inr}
use Rattle.std.specs.Prelude.{◌&&◌, IfSome, unwrap_or}
use Rattle.std.specs.List.{IsDistinct}
use Rattle.degree_sequences.specs.Domination.{DominatesKeys}
use Rattle.degree_sequences.proofs.CompressedLists.{compressed_dominates}
use Rattle.schema_types.specs.declared.types.Kind.{Kind}
use Rattle.csv_tables.specs.Cells.{value_of_cell}
use Rattle.csv_tables.specs.Values.{Value}
use Rattle.cond_stats.specs.Columns.{cell_le, value_le}
use Rattle.cond_stats.specs.Frequency.{frequent}
use Rattle.cond_stats.specs.Leaves.{IsNodeSize, cuts, in_node, leaf_of, node_size}
use Rattle.cond_stats.specs.Lists.{keys_with, list_of_node, list_of_range, rest}
use Rattle.cond_stats.specs.Rows.{filter_values, keys_where}
use Rattle.cond_stats.proofs.Dominating.{value_dominates}
use Rattle.cond_stats.proofs.LastPlaces.{last_place-within}
use Rattle.cond_stats.proofs.Ranges.{leaves_dominate}
use Rattle.column_stats.specs.declared.stats.ColumnStats.{ColumnStats}
use Rattle.column_stats.specs.Stats.{AreOfNoRows, AreOfRows, IsValid, leaf_by_cuts, list_for_node, list_for_range, list_for_value, stats_of}
use Rattle.column_stats.proofs.FrequentLists.{IsDistinct-frequent, value_is, values-of_lists}
use Rattle.column_stats.proofs.NodeLists.{node_is, node_size-is, node_count}

pub leaf_below : (texts : List (List ℕ)) (stats : ColumnStats) (value : Value) → IsValid stats → leaf_by_cuts texts stats value < 32
leaf_below texts stats value valid =
    let few : length stats.cuts ≤ 32 = elim valid.parts [ inl none ↦ omega (arith, ap (λ (s : List ℕ). length s) none.cuts_are) | inr some ↦ omega (arith, some.cut_count) ] in
    omega (arith, last_place-within (λ cut. value_le (value_of_cell texts stats.kind cut) value) stats.cuts 31 few)

module _ (texts : List (List ℕ)) (kind : Kind) (k : ℕ) where
  abbrev at_most : ℕ → ℕ → Bool
  at_most = cell_le texts kind

  -- `valid_without_rows` is about statistics of no rows, and `valid_with_rows` about statistics of one or more rows
  valid_without_rows : AreOfNoRows (stats_of texts kind k [])
  unfolding rest cuts
  valid_without_rows = record { no_rows = refl; whole_is = refl; rest_is = refl; frequent_are = λ i x h. absurd (omega arith); cuts_are = refl; nodes_are = refl }

  valid_with_rows : (row : ℕ × ℕ) (rows : List (ℕ × ℕ)) → AreOfRows (stats_of texts kind k (row ∷ rows))
  unfolding cuts
  valid_with_rows row rows = record { some_rows = omega arith; cut_count = refl; node_count = node_count at_most k row rows }

  pub valid : (rows : List (ℕ × ℕ)) → IsValid (stats_of texts kind k rows)
  valid [] = record { different = subst (IsDistinct eqb) (sym (values-of_lists k [] (frequent []))) (IsDistinct-frequent []); parts = inl valid_without_rows }
  valid (row ∷ rows) = record {
    different = subst (IsDistinct eqb) (sym (values-of_lists k (row ∷ rows) (frequent (filter_values (row ∷ rows))))) (IsDistinct-frequent (filter_values (row ∷ rows)));
    parts = inr (valid_with_rows row rows);
  }

  -- the list that the statistics give for a range is the list that cond_stats makes of the rows
  pub range_is : (rows : List (ℕ × ℕ)) (low high : Option ℕ) → IfSome low (λ leaf. leaf < 32) → list_for_range (stats_of texts kind k rows) low high ≡ list_of_range at_most k rows low high
  range_is rows None high from = node_is at_most k rows (node_size 0 (unwrap_or high 31)) 0 (node_size-is 0 (unwrap_or high 31)) (omega arith)
  range_is rows (Some low) high from = node_is at_most k rows (node_size low (unwrap_or high 31)) low (node_size-is low (unwrap_or high 31)) from

  module _ (rows : List (ℕ × ℕ)) where
    pub value_dominated : (v : ℕ) → DominatesKeys (list_for_value (stats_of texts kind k rows) (Some v)) (keys_with v rows)
    value_dominated v = subst (λ (s : List ℕ). DominatesKeys s (keys_with v rows)) (sym (value_is texts kind k rows (Some v))) (value_dominates k rows v)

    pub node_dominated : (size leaf : ℕ) → IsNodeSize size → leaf < 32
        → DominatesKeys (list_for_node (stats_of texts kind k rows) size leaf) (keys_where (λ v. in_node size leaf (leaf_of at_most (filter_values rows) v)) rows)
    unfolding list_of_node
    node_dominated size leaf is low = subst (λ (s : List ℕ). DominatesKeys s (keys_where (λ v. in_node size leaf (leaf_of at_most (filter_values rows) v)) rows))
        (sym (node_is at_most k rows size leaf is low))
        (compressed_dominates k (keys_where (λ v. in_node size leaf (leaf_of at_most (filter_values rows) v)) rows))

    pub range_dominated : (low high : ℕ) → low < 32 → high < 32
        → DominatesKeys (list_for_range (stats_of texts kind k rows) (Some low) (Some high))
        (keys_where (λ v. leb low (leaf_of at_most (filter_values rows) v) && leb (leaf_of at_most (filter_values rows) v) high) rows)
    range_dominated low high from to = subst (λ (s : List ℕ). DominatesKeys s (keys_where (λ v. leb low (leaf_of at_most (filter_values rows) v) && leb (leaf_of at_most (filter_values rows) v) high) rows))
        (sym (range_is rows (Some low) (Some high) from))
        (leaves_dominate at_most k rows low high (omega arith) (omega arith))
