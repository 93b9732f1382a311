-- The pair that the code makes from cells is `grown_pair`, the pair after the append.
use Rattle.std.proofs.Common.{◌≡◌, ℕ, ◌*◌, ◌/◌, ◌<◌, ◌^◌, Bool, List, [], ◌∷◌, length, map, sum, Some, slice_get, refl, ap, sym, ◌∙◌, subst, arith, inl, inr}
use Rattle.std.specs.List.{All, flat_map, range_with_len, zip}
use Rattle.std.proofs.Math.Path.{fun_ext}
use Rattle.std.proofs.lemmas.Bool.{cases_Bool}
use Rattle.std.proofs.lemmas.List.{length-map}
use Rattle.std.proofs.lemmas.Slice.Zip.{length-zip}
use Rattle.schema_types.specs.declared.types.Kind.{Kind}
use Rattle.csv_tables.specs.Cells.{IsCell, value_of_cell}
use Rattle.csv_tables.specs.Values.{Value}
use Rattle.csv_tables.specs.declared.types.Cells.{Cells}
use Rattle.cond_stats.specs.Leaves.{in_node}
use Rattle.cond_stats.specs.Lists.{compressed_degrees}
use Rattle.cond_stats.specs.Rows.{joined_keys, keys_where}
use Rattle.column_stats.specs.Nodes.{node_sizes}
use Rattle.column_stats.specs.Pairs.{cells_of_column, kind_of_column}
use Rattle.degree_sequences.specs.ByRank.{rank_sum}
use Rattle.degree_sequences.specs.Compression.{compressed}
use Rattle.degree_sequences.specs.Degrees.{degree_list}
use Rattle.relabelling_laws.proofs.Rows.{zip_of_columns}
use Rattle.sql_meaning.specs.Databases.{AreCells}
use Rattle.stats_file.specs.declared.types.Datum.{Datum}
use Rattle.stats_file.specs.declared.types.PairStats.{PairStats}
use Rattle.stats_file_of_query.specs.Standing.{leaf_of_value}
use Rattle.stats_file_of_query.proofs.Made.{are_its, its_cells, column_length, its_kind}
use Rattle.stats_file_of_query.proofs.SameValues.{same_parts}
use Rattle.appended_stats.specs.Cells.{grown_by_cells}
use Rattle.appended_stats.specs.Conditions.{MayGrow}
use Rattle.appended_stats.specs.Grown.{grown_pair, list_for_any_of, lists_of_nodes, other_values, rank_sums, with_new_rows}
use Rattle.appended_stats.proofs.NewLists.{any_list_is_valid, node_lists_are_valid, node_count}

-- the code pairs each row's leaf with its key once; each node's list is then made from these pairs alone
by_leaf : (p : ℕ → Bool) (f : ℕ → ℕ) (column joined : List ℕ) → keys_where p (zip (map f column) joined) ≡ keys_where (λ v. p (f v)) (zip column joined)
by_leaf p f [] joined = refl
by_leaf p f (v ∷ column) [] = refl
by_leaf p f (v ∷ column) (key ∷ joined) = elim (cases_Bool (p (f v))) [
  | inl e ↦ rw (e, by_leaf p f column joined) refl
  | inr e ↦ rw (e, by_leaf p f column joined) refl
]

nodes_by_leaf : (k : ℕ) (f : ℕ → ℕ) (column joined : List ℕ) → lists_of_nodes (λ leaf. leaf) k (zip (map f column) joined) ≡ lists_of_nodes f k (zip column joined)
nodes_by_leaf k f column joined =
    ap (λ (lists : ℕ → List (List ℕ)). flat_map lists node_sizes)
    (fun_ext (λ (size : ℕ). ap (λ (node : ℕ → List ℕ). map node (range_with_len 0 (32 / size)))
    (fun_ext (λ (i : ℕ). ap (λ (s : List ℕ). compressed k (degree_list s)) (by_leaf (λ leaf. in_node size (size * i) leaf) f column joined)))))

pub record AreRead (texts : List (List ℕ)) (cells : Cells) (pair : PairStats) (kd : Kind) (values keys : List ℕ) : Type 0 where
  pub are : AreCells texts cells
  pub may : MayGrow cells 1 pair
  pub kind_is : kind_of_column cells pair.filter ≡ kd
  pub values_are : values ≡ cells_of_column cells pair.filter
  pub keys_are : keys ≡ cells_of_column cells pair.joined

pub are_read : (texts : List (List ℕ)) {cells : Cells} {pair : PairStats} {kd : Kind} {values column keys joined : List ℕ} → AreCells texts cells → MayGrow cells 1 pair
    → slice_get cells.kinds pair.filter ≡ Some kd → slice_get cells.columns pair.filter ≡ Some column → values ≡ column → slice_get cells.columns pair.joined ≡ Some joined → keys ≡ joined
    → AreRead texts cells pair kd values keys
are_read texts {cells} {pair} {kd} {values} {column} {keys} {joined} are may kind_at column_at values_are joined_at keys_are = record {
  are = are;
  may = may;
  kind_is = its_kind texts cells are pair.filter may.filter kd kind_at;
  values_are = its_cells texts cells are pair.filter may.filter column values column_at values_are;
  keys_are = its_cells texts cells are pair.joined may.joined joined keys joined_at keys_are;
}

module _ {texts : List (List ℕ)} {cells : Cells} {pair : PairStats} {kd : Kind} {values keys : List ℕ} (is : AreRead texts cells pair kd values keys) where
  pub all_cells : All (IsCell texts kd) values
  all_cells = are_its texts cells is.are pair.filter is.may.filter kd values is.kind_is is.values_are

  height : length values ≡ cells.rows
  height = column_length texts cells is.are pair.filter is.may.filter values is.values_are

  pub same_lengths : length keys ≡ length values
  same_lengths = column_length texts cells is.are pair.joined is.may.joined keys is.keys_are ∙ sym height

  pub fewer_than_2_32 : length values < 2 ^ 32
  fewer_than_2_32 = omega (arith, height, is.may.rows)

  pub fewer_keys_than_2_32 : length keys < 2 ^ 32
  fewer_keys_than_2_32 = omega (arith, same_lengths, fewer_than_2_32)

  fewer_rows_than_2_32 : length (zip values keys) < 2 ^ 32
  fewer_rows_than_2_32 = omega (arith, length-zip values keys, same_lengths, fewer_than_2_32)

  pub frequent_small : All (λ (found : Datum × List ℕ). sum found.1 < 2 ^ 64) pair.frequent
  frequent_small i d low = omega (arith, is.may.frequent i d low)

  pub own_small : (own : List (List ℕ)) → own ≡ pair.nodes → All (λ (list : List ℕ). sum list < 2 ^ 64) own
  own_small own also = subst (All (λ (list : List ℕ). sum list < 2 ^ 64)) (sym also) (λ i d low. omega (arith, is.may.nodes i d low))

  module _ (k : ℕ) where
    abbrev rows : List (ℕ × ℕ)
    rows = zip values keys

    abbrev of_cell : ℕ → Value
    of_cell cell = value_of_cell texts kd cell

    pub rest_small : (others : List ℕ) (list : List ℕ) → list ≡ list_for_any_of k rows others → sum list < 2 ^ 64
    rest_small others list made = omega (arith, ap sum made, (any_list_is_valid k rows others).within, fewer_rows_than_2_32)

    abbrev leaf : ℕ → ℕ
    leaf cell = leaf_of_value pair (value_of_cell texts kd cell)

    nodes_are : (leaves : List ℕ) (lists : List (List ℕ)) → leaves ≡ map leaf values → lists ≡ lists_of_nodes (λ l. l) k (zip leaves keys) → lists ≡ lists_of_nodes leaf k rows
    nodes_are leaves lists of made = made ∙ ap (λ (s : List ℕ). lists_of_nodes (λ l. l) k (zip s keys)) of ∙ nodes_by_leaf k leaf values keys

    pub leaves_length : (leaves : List ℕ) → leaves ≡ map leaf values → length keys ≡ length leaves
    leaves_length leaves of = omega (arith, ap (λ (s : List ℕ). length s) of, length-map values leaf, same_lengths)

    pub fewer_leaves_than_2_32 : (leaves : List ℕ) → leaves ≡ map leaf values → length leaves < 2 ^ 32
    fewer_leaves_than_2_32 leaves of = omega (arith, ap (λ (s : List ℕ). length s) of, length-map values leaf, fewer_than_2_32)

    pub as_many : (leaves : List ℕ) (lists read own : List (List ℕ)) → leaves ≡ map leaf values → lists ≡ lists_of_nodes (λ l. l) k (zip leaves keys) → read ≡ lists → own ≡ pair.nodes
        → length read ≡ length own
    as_many leaves lists read own of made same also =
        omega (arith, ap (λ (s : List (List ℕ)). length s) (same ∙ nodes_are leaves lists of made), node_count k rows leaf, is.may.node_count (omega arith), ap (λ (s : List (List ℕ)). length s) also)

    pub nodes_small : (leaves : List ℕ) (lists read : List (List ℕ)) → leaves ≡ map leaf values → lists ≡ lists_of_nodes (λ l. l) k (zip leaves keys) → read ≡ lists
        → All (λ (list : List ℕ). sum list < 2 ^ 64) read
    nodes_small leaves lists read of made same =
        subst (All (λ (list : List ℕ). sum list < 2 ^ 64)) (sym (same ∙ nodes_are leaves lists of made))
        (λ i d low. omega (arith, (node_lists_are_valid k rows leaf i d low).within, fewer_rows_than_2_32))

    pub pair_made : (all rest w o : List ℕ) (frequent : List (Datum × List ℕ)) (leaves : List ℕ) (lists read own nodes : List (List ℕ)) (often : List (Datum × List ℕ))
        → w ≡ compressed_degrees k keys → all ≡ rank_sum pair.whole w → often ≡ pair.frequent → o ≡ list_for_any_of k rows (other_values of_cell rows often) → rest ≡ rank_sum pair.rest o
        → leaves ≡ map leaf values → lists ≡ lists_of_nodes (λ l. l) k (zip leaves keys) → read ≡ lists → own ≡ pair.nodes → nodes ≡ rank_sums own read
        → frequent ≡ map (with_new_rows of_cell k rows) pair.frequent
        → (let p : PairStats = record { filter = pair.filter; joined = pair.joined; whole = all; frequent = frequent; rest = rest; cuts = pair.cuts; nodes = nodes } in p) ≡ grown_by_cells texts cells k pair
    pair_made all rest w o frequent leaves lists read own nodes often w_is all_is often_is o_is rest_is leaves_are lists_are read_is own_is nodes_is frequent_is =
        let second : keys ≡ joined_keys rows = sym (zip_of_columns values keys (sym same_lengths)).1 in
        same_parts pair.filter pair.joined all (grown_pair of_cell k rows pair).whole rest (grown_pair of_cell k rows pair).rest frequent (grown_pair of_cell k rows pair).frequent pair.cuts pair.cuts
        nodes (grown_pair of_cell k rows pair).nodes
        (all_is ∙ ap (rank_sum pair.whole) (w_is ∙ ap (compressed_degrees k) second)) frequent_is
        (rest_is ∙ ap (rank_sum pair.rest) (o_is ∙ ap (λ (f : List (Datum × List ℕ)). list_for_any_of k rows (other_values of_cell rows f)) often_is)) refl
        (nodes_is ∙ ap (λ (s : List (List ℕ)). rank_sums s read) own_is ∙ ap (rank_sums pair.nodes) (read_is ∙ nodes_are leaves lists leaves_are lists_are))
        ∙ ap (λ (x : Kind). grown_pair (value_of_cell texts x) k rows pair) (sym is.kind_is)
        ∙ ap (λ (s : List ℕ). grown_pair (value_of_cell texts (kind_of_column cells pair.filter)) k (zip s keys) pair) is.values_are
        ∙ ap (λ (s : List ℕ). grown_pair (value_of_cell texts (kind_of_column cells pair.filter)) k (zip (cells_of_column cells pair.filter) s) pair) is.keys_are
