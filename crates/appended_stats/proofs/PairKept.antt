-- The pair after the append (the grown pair) keeps the rules of statistics files, and still agrees with the other pairs of its section.
use Rattle.std.proofs.Common.{◌≡◌, ℕ, zero, suc, ◌+◌, ◌*◌, ◌/◌, ◌<◌, not, List, [], ◌∷◌, drop, length, map, get_or, sum, refl, ap, sym, ◌∙◌, subst, arith}
use Rattle.std.specs.Prelude.{slice_index_or}
use Rattle.std.specs.List.{count_by, filter, flat_map, list_any, range_with_len, zip}
use Rattle.std.proofs.lemmas.List.{get_or-map, length-map}
use Rattle.std.proofs.lemmas.List.Elements.{All-from_recursion, All-map, recursion_from_All}
use Rattle.cond_stats.specs.Columns.{value_le}
use Rattle.cond_stats.specs.Leaves.{in_node, last_place}
use Rattle.cond_stats.specs.Lists.{greatest, whole}
use Rattle.cond_stats.specs.Rows.{filter_values, joined_keys, keys_where}
use Rattle.cond_stats.proofs.Members.{length-keys_where}
use Rattle.cond_stats.proofs.Sums.{sum-compressed_degrees, sum-whole}
use Rattle.column_stats.specs.Nodes.{node_sizes}
use Rattle.csv_tables.specs.Values.{Value}
use Rattle.degree_sequences.specs.ByRank.{rank_sum}
use Rattle.degree_sequences.specs.Degrees.{degree, different}
use Rattle.degree_sequences.proofs.ByRank.{sum-rank_sum}
use Rattle.level_bounds.proofs.Lists.{map_of_map}
use Rattle.schema_types.specs.declared.types.Kind.{Kind}
use Rattle.schema_types.specs.declared.types.Table.{Table}
use Rattle.stats_file.specs.declared.types.Datum.{Datum}
use Rattle.stats_file.specs.declared.types.Datum.TheVariants as datum
use Rattle.stats_file.specs.declared.types.PairStats.{PairStats}
use Rattle.stats_file.specs.Rules.{AreFrequent, HaveSameFilterCounts, IsList, IsOfKind, IsPair, IsHistogram, IsHistogramOf}
use Rattle.stats_file_of_query.specs.Data.{value_of}
use Rattle.stats_file_of_query.specs.Standing.{is_value, leaf_of_value}
use Rattle.stats_file_of_query.proofs.Agreeing.{whole_same}
use Rattle.stats_file_of_query.proofs.Lists.{where_list_is_valid, whole_list_is_valid}
use Rattle.appended_stats.specs.Grown.{grown_pair, is_frequent, list_for_any_of, list_with, lists_of_nodes, other_values, rank_sums, with_new_rows}
use Rattle.appended_stats.proofs.NewLists.{sum_is_valid, all_sums_are_valid, any_list_is_valid, node_counts, node_lists_are_valid, node_count, sum-list_for_any_of, sums_count, sums_of_sums}

pub nodes_all : (kd : Kind) (n : ℕ) (cuts : List Datum) (nodes : List (List ℕ)) → 0 < n → IsHistogramOf kd n cuts nodes → length nodes ≡ 63
nodes_all kd zero cuts nodes some is = absurd (omega (arith, some))
nodes_all kd (suc n) cuts nodes some is = is.all

module _ (of_row : ℕ → Value) (k : ℕ) (rows : List (ℕ × ℕ)) where
  abbrev column : List ℕ
  column = filter_values rows

  abbrev new : ℕ
  new = length rows

  -- ---- the rules of one pair

  abbrev grown_one : Datum × List ℕ → Datum × List ℕ
  grown_one = with_new_rows of_row k rows

  value_list_is_valid : (value : Datum) → IsList new (list_with of_row k rows value)
  value_list_is_valid value = where_list_is_valid k new rows (omega arith) (λ n. is_value (of_row n) value)

  frequent_kept : (kd : Kind) (n : ℕ) (frequent : List (Datum × List ℕ)) → AreFrequent kd n frequent → AreFrequent kd (n + new) (map grown_one frequent)
  frequent_kept kd n frequent are = record {
    within_limit = omega (arith, are.within_limit, length-map frequent grown_one);
    differ = λ i j d before low.
        let within : j < length frequent = omega (arith, low, length-map frequent grown_one) in
        let at : (p : ℕ) → p < length frequent → (get_or (map grown_one frequent) p d).0 ≡ (get_or frequent p d).0 = λ p below. ap (λ (f : Datum × List ℕ). f.0) (get_or-map grown_one frequent p d d below) in
        λ same. are.differ i j d before within (sym (at i (omega (arith, before, within))) ∙ same ∙ at j within);
    values = All-map (λ (f : Datum × List ℕ). IsOfKind kd f.0) grown_one frequent are.values;
    lists = All-map (λ (f : Datum × List ℕ). IsList (n + new) f.1) grown_one frequent
        (λ i d low. sum_is_valid n new (get_or frequent i d).1 (list_with of_row k rows (get_or frequent i d).0) (are.lists i d low) (value_list_is_valid (get_or frequent i d).0));
  }

  some_tree : (kd : Kind) (n : ℕ) (cuts : List Datum) (nodes : List (List ℕ)) (leaf : ℕ → ℕ) → IsHistogram kd n cuts nodes → IsHistogram kd (n + new) cuts (rank_sums nodes (lists_of_nodes leaf k rows))
  some_tree kd n cuts nodes leaf is = record {
    leaves = is.leaves;
    values = is.values;
    order = is.order;
    all = sums_count nodes (lists_of_nodes leaf k rows) is.all (node_count k rows leaf);
    lists = All-from_recursion (IsList (n + new)) (rank_sums nodes (lists_of_nodes leaf k rows))
        (all_sums_are_valid n new nodes (lists_of_nodes leaf k rows) (recursion_from_All (IsList n) nodes is.lists)
        (recursion_from_All (IsList new) (lists_of_nodes leaf k rows) (node_lists_are_valid k rows leaf)));
  }

  tree_kept : (kd : Kind) (n : ℕ) (cuts : List Datum) (nodes : List (List ℕ)) (leaf : ℕ → ℕ) → 0 < n → IsHistogramOf kd n cuts nodes
      → IsHistogramOf kd (n + new) cuts (rank_sums nodes (lists_of_nodes leaf k rows))
  tree_kept kd zero cuts nodes leaf some is = absurd (omega (arith, some))
  tree_kept kd (suc n) cuts nodes leaf some is =
      let e : suc (n + new) ≡ suc n + new = omega arith in
      subst (λ m. IsHistogramOf kd m cuts (rank_sums nodes (lists_of_nodes leaf k rows))) e
      (subst (λ m. IsHistogram kd m cuts (rank_sums nodes (lists_of_nodes leaf k rows))) (sym e) (some_tree kd (suc n) cuts nodes leaf is))

  pub grown_kept : (table : Table) (n : ℕ) (pair : PairStats) → 0 < n → IsPair table n pair → IsPair table (n + new) (grown_pair of_row k rows pair)
  grown_kept table n pair some is = record {
    filter = is.filter;
    filter_is = is.filter_is;
    joined = is.joined;
    whole = sum_is_valid n new pair.whole (whole k rows) is.whole (whole_list_is_valid k new rows (omega arith));
    all_rows = omega (arith, sum-rank_sum pair.whole (whole k rows), is.all_rows, sum-whole k rows);
    frequent = frequent_kept is.filter.kind n pair.frequent is.frequent;
    rest = sum_is_valid n new pair.rest (list_for_any_of k rows (other_values of_row rows pair.frequent)) is.rest (any_list_is_valid k rows (other_values of_row rows pair.frequent));
    tree = tree_kept is.filter.kind n pair.cuts pair.nodes (λ m. leaf_of_value pair (of_row m)) some is.tree;
  }

-- ---- two pairs that agree still agree after the append

abbrev values_of : List (Datum × List ℕ) → List Datum
values_of frequent = map (λ (f : Datum × List ℕ). f.0) frequent

abbrev totals_of : List (Datum × List ℕ) → List ℕ
totals_of frequent = map (λ (f : Datum × List ℕ). sum f.1) frequent

first_same : {X : Type 0} (x y : X) (xs ys : List X) → (let s : List X = x ∷ xs in s) ≡ y ∷ ys → x ≡ y
first_same x y xs ys same = ap (λ (s : List _). get_or s 0 x) same

others_same : {X : Type 0} (x y : X) (xs ys : List X) → (let s : List X = x ∷ xs in s) ≡ y ∷ ys → xs ≡ ys
others_same x y xs ys same = ap (λ (s : List _). drop 1 s) same

-- the number that is added depends only on the value, so equal sums stay equal
totals_from : (more : Datum → ℕ) (a b : List (Datum × List ℕ)) → values_of a ≡ values_of b → totals_of a ≡ totals_of b
    → map (λ (f : Datum × List ℕ). sum f.1 + more f.0) a ≡ map (λ (f : Datum × List ℕ). sum f.1 + more f.0) b
totals_from more [] [] values totals = refl
totals_from more [] (y ∷ b) values totals = absurd (omega (arith, ap (λ (s : List ℕ). length s) totals))
totals_from more (x ∷ a) [] values totals = absurd (omega (arith, ap (λ (s : List ℕ). length s) totals))
totals_from more (x ∷ a) (y ∷ b) values totals =
    ap (λ (n : ℕ). (n + more x.0) ∷ map (λ (f : Datum × List ℕ). sum f.1 + more f.0) a) (first_same (sum x.1) (sum y.1) (totals_of a) (totals_of b) totals)
    ∙ ap (λ (v : Datum). (sum y.1 + more v) ∷ map (λ (f : Datum × List ℕ). sum f.1 + more f.0) a) (first_same x.0 y.0 (values_of a) (values_of b) values)
    ∙ ap (λ (s : List ℕ). (sum y.1 + more y.0) ∷ s)
    (totals_from more a b (others_same x.0 y.0 (values_of a) (values_of b) values) (others_same (sum x.1) (sum y.1) (totals_of a) (totals_of b) totals))

any_by_value : (value : Value) (frequent : List (Datum × List ℕ)) → is_frequent frequent value ≡ list_any (is_value value) (values_of frequent)
any_by_value value [] = refl
any_by_value value (f ∷ frequent) = rw (any_by_value value frequent) refl

module _ (of_row : ℕ → Value) (k : ℕ) (rows others : List (ℕ × ℕ)) (same : filter_values rows ≡ filter_values others) (a b : PairStats) (agreed : HaveSameFilterCounts a b) where
  -- only the filter column is used, so pairs with the same filter column have equal counts
  abbrev count_of : List ℕ → Datum → ℕ
  count_of column value = count_by (λ n. is_value (of_row n) value) column

  totals_are : (pairs : List (ℕ × ℕ)) (frequent : List (Datum × List ℕ))
      → totals_of (map (with_new_rows of_row k pairs) frequent) ≡ map (λ (f : Datum × List ℕ). sum f.1 + count_of (filter_values pairs) f.0) frequent
  totals_are pairs frequent =
      map_of_map (λ (f : Datum × List ℕ). sum f.1) (with_new_rows of_row k pairs) (λ (f : Datum × List ℕ). sum f.1 + count_of (filter_values pairs) f.0)
      (λ f. sum-rank_sum f.1 (list_with of_row k pairs f.0)
      ∙ ap (λ n. sum f.1 + n) (sum-compressed_degrees k (keys_where (λ n. is_value (of_row n) f.0) pairs) ∙ length-keys_where (λ n. is_value (of_row n) f.0) pairs)) frequent

  values_kept : (pairs : List (ℕ × ℕ)) (frequent : List (Datum × List ℕ)) → values_of (map (with_new_rows of_row k pairs) frequent) ≡ values_of frequent
  values_kept pairs frequent = map_of_map (λ (f : Datum × List ℕ). f.0) (with_new_rows of_row k pairs) (λ (f : Datum × List ℕ). f.0) (λ f. refl) frequent

  abbrev others_by : List Datum → List ℕ → List ℕ
  others_by values column = different (filter (λ n. not (list_any (is_value (of_row n)) values)) column)

  others_are : (pairs : List (ℕ × ℕ)) (frequent : List (Datum × List ℕ)) → other_values of_row pairs frequent ≡ others_by (values_of frequent) (filter_values pairs)
  others_are pairs frequent = ap different (same_other_values (filter_values pairs))
    where
      same_other_values : (ns : List ℕ) → filter (λ n. not (is_frequent frequent (of_row n))) ns ≡ filter (λ n. not (list_any (is_value (of_row n)) (values_of frequent))) ns
      same_other_values [] = refl
      same_other_values (n ∷ ns) = rw (any_by_value (of_row n) frequent, same_other_values ns) refl

  rest_total : (pairs : List (ℕ × ℕ)) (pair : PairStats) → sum (grown_pair of_row k pairs pair).rest
      ≡ sum pair.rest + greatest (map (degree (filter_values pairs)) (others_by (values_of pair.frequent) (filter_values pairs)))
  rest_total pairs pair =
      sum-rank_sum pair.rest (list_for_any_of k pairs (other_values of_row pairs pair.frequent))
      ∙ ap (λ n. sum pair.rest + n) (sum-list_for_any_of k pairs (other_values of_row pairs pair.frequent)
      ∙ ap (λ (s : List ℕ). greatest (map (degree (filter_values pairs)) s)) (others_are pairs pair.frequent))

  abbrev leaf_by : List Datum → ℕ → ℕ
  leaf_by cuts n = last_place (λ leaf. value_le (value_of (slice_index_or cuts leaf (datum.Text []))) (of_row n)) (range_with_len 0 (length cuts))

  abbrev counts_by : List Datum → List ℕ → List ℕ
  counts_by cuts column = flat_map (λ size. map (λ i. count_by (λ n. in_node size (size * i) (leaf_by cuts n)) column) (range_with_len 0 (32 / size))) node_sizes

  node_totals : (pairs : List (ℕ × ℕ)) (pair : PairStats) → map sum (grown_pair of_row k pairs pair).nodes
      ≡ map (λ (both : ℕ × ℕ). both.0 + both.1) (zip (map sum pair.nodes) (counts_by pair.cuts (filter_values pairs)))
  node_totals pairs pair =
      sums_of_sums pair.nodes (lists_of_nodes (leaf_by pair.cuts) k pairs)
      ∙ ap (λ (s : List ℕ). map (λ (both : ℕ × ℕ). both.0 + both.1) (zip (map sum pair.nodes) s)) (node_counts k pairs (leaf_by pair.cuts))

  pub counts_grown : HaveSameFilterCounts (grown_pair of_row k rows a) (grown_pair of_row k others b)
  counts_grown = record {
    values = values_kept rows a.frequent ∙ agreed.values ∙ sym (values_kept others b.frequent);
    totals = totals_are rows a.frequent ∙ totals_from (count_of (filter_values rows)) a.frequent b.frequent agreed.values agreed.totals
        ∙ ap (λ (column : List ℕ). map (λ (f : Datum × List ℕ). sum f.1 + count_of column f.0) b.frequent) same ∙ sym (totals_are others b.frequent);
    rest = rest_total rows a ∙ ap (λ n. n + greatest (map (degree (filter_values rows)) (others_by (values_of a.frequent) (filter_values rows)))) agreed.rest
        ∙ ap (λ (values : List Datum). sum b.rest + greatest (map (degree (filter_values rows)) (others_by values (filter_values rows)))) agreed.values
        ∙ ap (λ (column : List ℕ). sum b.rest + greatest (map (degree column) (others_by (values_of b.frequent) column))) same ∙ sym (rest_total others b);
    cuts = agreed.cuts;
    nodes = node_totals rows a ∙ ap (λ (s : List ℕ). map (λ (both : ℕ × ℕ). both.0 + both.1) (zip s (counts_by a.cuts (filter_values rows)))) agreed.nodes
        ∙ ap (λ (cuts : List Datum). map (λ (both : ℕ × ℕ). both.0 + both.1) (zip (map sum b.nodes) (counts_by cuts (filter_values rows)))) agreed.cuts
        ∙ ap (λ (column : List ℕ). map (λ (both : ℕ × ℕ). both.0 + both.1) (zip (map sum b.nodes) (counts_by b.cuts column))) same ∙ sym (node_totals others b);
  }

pub whole_grown : (k : ℕ) (rows others : List (ℕ × ℕ)) (a b : List ℕ) → joined_keys rows ≡ joined_keys others → a ≡ b → rank_sum a (whole k rows) ≡ rank_sum b (whole k others)
whole_grown k rows others a b same also = ap (λ s. rank_sum s (whole k rows)) also ∙ ap (rank_sum b) (whole_same k rows others same)
