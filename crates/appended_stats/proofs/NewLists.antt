-- Degree lists made from appended rows keep the rule `IsList` of statistics files, and so does the rank-wise sum of two lists that keep it. Some
-- lemmas compute the sums of these lists.
use Rattle.std.proofs.Common.{◌≡◌, ℕ, ◌+◌, ◌*◌, ◌/◌, ◌<◌, ◌≤◌, eqb, List, [], ◌∷◌, length, map, get_or, sum, refl, ap, sym, ◌∙◌, arith}
use Rattle.std.specs.List.{All, AllByRecursion, count_by, flat_map, range_with_len, zip}
use Rattle.std.proofs.Math.Path.{fun_ext}
use Rattle.std.proofs.lemmas.List.{length-map}
use Rattle.std.proofs.lemmas.List.Elements.{All-append, All-from_recursion, All-map, recursion_from_All}
use Rattle.std.proofs.lemmas.List.Sums.{count_by-le-length}
use Rattle.std.proofs.lemmas.Slice.Zip.{length-zip}
use Rattle.cond_stats.specs.Leaves.{in_node}
use Rattle.cond_stats.specs.Lists.{greatest, keys_with, list_where, maxima}
use Rattle.cond_stats.specs.Rows.{filter_values, keys_where}
use Rattle.cond_stats.proofs.Maxima.{IsDescending-maxima, greatest-le, greatest-le-sum}
use Rattle.cond_stats.proofs.Members.{length-keys_where}
use Rattle.cond_stats.proofs.Sums.{sum-compressed_degrees, sum-capped_at}
use Rattle.column_stats.specs.Nodes.{node_sizes}
use Rattle.column_stats.proofs.NodeLists.{node_list_count}
use Rattle.degree_sequences.specs.ByRank.{rank_sum}
use Rattle.degree_sequences.specs.Degrees.{degree, degree_list}
use Rattle.degree_sequences.specs.Descending.{IsDescending}
use Rattle.degree_sequences.specs.RunningSums.{capped_at}
use Rattle.degree_sequences.proofs.ByRank.{IsDescending-rank_sum, sum-rank_sum}
use Rattle.degree_sequences.proofs.CompressedLists.{sum-compressed}
use Rattle.degree_sequences.proofs.DegreeLists.{IsDescending-degree_list, sum-degree_list}
use Rattle.degree_sequences.proofs.Minima.{IsDescending-capped_at}
use Rattle.level_bounds.proofs.Lists.{map_of_map}
use Rattle.piece_math.proofs.Cutting.{positive-capped_at}
use Rattle.std.proofs.lemmas.List.FromFn.{length-map-range_with_len}
use Rattle.stats_file.specs.Rules.{IsList}
use Rattle.stats_file_of_query.proofs.Agreeing.{map-flat}
use Rattle.stats_file_of_query.proofs.Lists.{is_compressed, where_list_is_valid}
use Rattle.appended_stats.specs.Grown.{list_for_any_of, lists_of_nodes, lists_of_size, rank_sums}

-- ---- the rank-wise sum of two lists keeps the rule

positive_sum : (s t : List ℕ) → AllByRecursion (λ x. 0 < x) s → AllByRecursion (λ x. 0 < x) t → AllByRecursion (λ x. 0 < x) (rank_sum s t)
positive_sum [] t some also = also
positive_sum (x ∷ s) [] some also = some
positive_sum (x ∷ s) (y ∷ t) some also = (omega (arith, some.0), positive_sum s t some.1 also.1)

pub sum_is_valid : (n m : ℕ) (s t : List ℕ) → IsList n s → IsList m t → IsList (n + m) (rank_sum s t)
sum_is_valid n m s t one other = record {
  descends = IsDescending-rank_sum s t one.descends other.descends;
  positive = All-from_recursion (λ x. 0 < x) (rank_sum s t)
      (positive_sum s t (recursion_from_All (λ x. 0 < x) s one.positive) (recursion_from_All (λ x. 0 < x) t other.positive));
  within = omega (arith, sum-rank_sum s t, one.within, other.within);
}

pub all_sums_are_valid : (n m : ℕ) (lists others : List (List ℕ)) → AllByRecursion (IsList n) lists → AllByRecursion (IsList m) others → AllByRecursion (IsList (n + m)) (rank_sums lists others)
all_sums_are_valid n m [] others all also = tt
all_sums_are_valid n m (list ∷ lists) [] all also = tt
all_sums_are_valid n m (list ∷ lists) (other ∷ others) all also = (sum_is_valid n m list other all.0 also.0, all_sums_are_valid n m lists others all.1 also.1)

pub sums_of_sums : (lists others : List (List ℕ)) → map sum (rank_sums lists others) ≡ map (λ (both : ℕ × ℕ). both.0 + both.1) (zip (map sum lists) (map sum others))
sums_of_sums [] others = refl
sums_of_sums (list ∷ lists) [] = refl
sums_of_sums (list ∷ lists) (other ∷ others) =
    ap (λ (n : ℕ). n ∷ map sum (rank_sums lists others)) (sum-rank_sum list other) ∙ ap (λ (s : List ℕ). (sum list + sum other) ∷ s) (sums_of_sums lists others)

pub sums_count : (lists others : List (List ℕ)) → length lists ≡ 63 → length others ≡ 63 → length (rank_sums lists others) ≡ 63
sums_count lists others many also = omega (arith, length-map (zip lists others) (λ (both : List ℕ × List ℕ). rank_sum both.0 both.1), length-zip lists others, many, also)

-- ---- `list_for_any_of` keeps the rule

module _ (k : ℕ) (rows : List (ℕ × ℕ)) where
  abbrev column : List ℕ
  column = filter_values rows

  abbrev degrees : ℕ → List ℕ
  degrees value = degree_list (keys_with value rows)

  pub descends : (values : List ℕ) → IsDescending (maxima (map degrees values))
  descends values = IsDescending-maxima degrees (λ value. IsDescending-degree_list (keys_with value rows)) values

  pub sum-list_for_any_of : (values : List ℕ) → sum (list_for_any_of k rows values) ≡ greatest (map (degree column) values)
  sum-list_for_any_of values =
      let s : List ℕ = maxima (map degrees values) in
      let n : ℕ = greatest (map (degree column) values) in
      omega (
        arith,
        sum-compressed k (capped_at s n) (IsDescending-capped_at s n (descends values)),
        sum-capped_at s n,
        greatest-le-sum degrees (degree column) (λ v. sym (sum-degree_list (keys_with v rows) ∙ length-keys_where (λ other. eqb other v) rows)) values,
      )

  any_degree_at_most_rows : (values : List ℕ) → greatest (map (degree column) values) ≤ length rows
  any_degree_at_most_rows values =
      greatest-le (degree column) values (length rows)
      (λ i d low. omega (arith, count_by-le-length (λ other. eqb other (get_or values i d)) column, length-map rows (λ (row : ℕ × ℕ). row.0)))

  pub any_list_is_valid : (values : List ℕ) → IsList (length rows) (list_for_any_of k rows values)
  any_list_is_valid values =
      let s : List ℕ = maxima (map degrees values) in
      let n : ℕ = greatest (map (degree column) values) in
      is_compressed k (capped_at s n) (length rows) (IsDescending-capped_at s n (descends values)) (All-from_recursion (λ x. 0 < x) (capped_at s n) (positive-capped_at s n (descends values)))
      (omega (arith, sum-list_for_any_of values, any_degree_at_most_rows values))

  -- ---- the lists of nodes keep the rule

  module _ (leaf : ℕ → ℕ) where
    pub node_count : length (lists_of_nodes leaf k rows) ≡ 63
    node_count = node_list_count (lists_of_size leaf k rows) (λ s. length-map-range_with_len (λ i. list_where k (λ n. in_node s (s * i) (leaf n)) rows) 0 (32 / s))

    size_lists_are_valid : (size : ℕ) → All (IsList (length rows)) (lists_of_size leaf k rows size)
    size_lists_are_valid size = All-map (IsList (length rows)) (λ i. list_where k (λ n. in_node size (size * i) (leaf n)) rows) (range_with_len 0 (32 / size))
        (λ i d low. where_list_is_valid k (length rows) rows (omega arith) (λ n. in_node size (size * get_or (range_with_len 0 (32 / size)) i d) (leaf n)))

    pub node_lists_are_valid : All (IsList (length rows)) (lists_of_nodes leaf k rows)
    node_lists_are_valid = all_lists node_sizes
      where
        all_lists : (sizes : List ℕ) → All (IsList (length rows)) (flat_map (lists_of_size leaf k rows) sizes)
        all_lists [] = λ i d low. absurd (omega (arith, low))
        all_lists (size ∷ sizes) = All-append (IsList (length rows)) (lists_of_size leaf k rows size) (flat_map (lists_of_size leaf k rows) sizes) (size_lists_are_valid size) (all_lists sizes)

    pub node_counts : map sum (lists_of_nodes leaf k rows) ≡ flat_map (λ size. map (λ i. count_by (λ n. in_node size (size * i) (leaf n)) column) (range_with_len 0 (32 / size))) node_sizes
    node_counts =
        map-flat (lists_of_size leaf k rows) node_sizes
        ∙ ap (λ (lists : ℕ → List ℕ). flat_map lists node_sizes)
        (fun_ext (λ (size : ℕ). map_of_map sum (λ i. list_where k (λ n. in_node size (size * i) (leaf n)) rows) (λ i. count_by (λ n. in_node size (size * i) (leaf n)) column)
        (λ i. sum-compressed_degrees k (keys_where (λ n. in_node size (size * i) (leaf n)) rows) ∙ length-keys_where (λ n. in_node size (size * i) (leaf n)) rows)
        (range_with_len 0 (32 / size))))
