-- The lists of a pair keep the rules of statistics files.
use Rattle.std.proofs.Common.{◌≡◌, ℕ, zero, suc, ◌+◌, ◌-◌, ◌<◌, ◌≤◌, Bool, ltb, eqb, min, List, [], ◌∷◌, length, map, sum, None, ap, sym, subst, arith}
use Rattle.std.specs.List.{All, AllByRecursion}
use Rattle.std.proofs.lemmas.Bool.{cond_both, ltb-true}
use Rattle.std.proofs.lemmas.List.Elements.{All-from_recursion}
use Rattle.cond_stats.specs.Frequency.{remaining}
use Rattle.cond_stats.specs.Leaves.{in_node, leaf_of}
use Rattle.cond_stats.specs.Lists.{compressed_degrees, greatest, keys_with, list_of_node, maxima, rest, whole}
use Rattle.cond_stats.specs.Rows.{filter_values, joined_keys, keys_where}
use Rattle.piece_math.proofs.Cutting.{positive-capped_at}
use Rattle.cond_stats.proofs.Dominating.{rest-is, uncompressed_rest}
use Rattle.cond_stats.proofs.Maxima.{IsDescending-maxima}
use Rattle.cond_stats.proofs.Members.{length-keys_where}
use Rattle.cond_stats.proofs.Sums.{IsDescending-uncompressed_rest, sum-compressed_degrees}
use Rattle.cond_stats.proofs.ValueLists.{list_without_cell}
use Rattle.degree_sequences.specs.Compression.{compressed, compressed_from, head_of_row}
use Rattle.degree_sequences.specs.Degrees.{degree, degree_list}
use Rattle.degree_sequences.specs.Descending.{IsDescending}
use Rattle.degree_sequences.proofs.CompressedLists.{IsDescending-compressed}
use Rattle.degree_sequences.proofs.DegreeLists.{IsDescending-degree_list}
use Rattle.degree_sequences.proofs.FewRuns.{head_of_row_pos}
use Rattle.degree_sequences.proofs.Rearranged.{degree_list_positive}
use Rattle.gathered_stats.proofs.Sizes.{value_within}
use Rattle.std.proofs.lemmas.List.Sums.{count_by-le-length}
use Rattle.std.proofs.lemmas.List.{length-map}
use Rattle.stats_file.specs.Rules.{IsList}

-- ---- compressed lists have only positive elements

positive_from : (k : ℕ) (f : List ℕ) → IsDescending f → All (λ x. 0 < x) f → (n m : ℕ) → AllByRecursion (λ x. 0 < x) (compressed_from k f n m)
positive_from k f descends positive zero m = tt
positive_from k f descends positive (suc n) m =
    let next : ℕ = min (head_of_row k f m) (sum f - m) in
    cond_both (ltb m (sum f)) (next ∷ compressed_from k f n (m + next)) [] (AllByRecursion (λ x. 0 < x))
    (λ e. (omega (arith, ltb-true m (sum f) e, head_of_row_pos k f descends positive m (ltb-true m (sum f) e)), positive_from k f descends positive n (m + next)))
    (λ e. tt)

pub is_compressed : (k : ℕ) (f : List ℕ) (rows : ℕ) → IsDescending f → All (λ x. 0 < x) f → sum (compressed k f) ≤ rows → IsList rows (compressed k f)
is_compressed k f rows descends positive within = record {
  descends = IsDescending-compressed k f descends;
  positive = All-from_recursion (λ x. 0 < x) (compressed k f) (positive_from k f descends positive (length f) 0);
  within = within;
}

pub degree_list_is_valid : (k rows : ℕ) (keys : List ℕ) → length keys ≤ rows → IsList rows (compressed_degrees k keys)
degree_list_is_valid k rows keys within_limit =
    is_compressed k (degree_list keys) rows (IsDescending-degree_list keys) (degree_list_positive keys) (omega (arith, sum-compressed_degrees k keys, within_limit))

positive_rest : (pairs : List (ℕ × ℕ)) → AllByRecursion (λ x. 0 < x) (uncompressed_rest pairs)
positive_rest pairs =
    positive-capped_at (maxima (map (λ value. degree_list (keys_with value pairs)) (remaining (filter_values pairs))))
    (greatest (map (degree (filter_values pairs)) (remaining (filter_values pairs))))
    (IsDescending-maxima (λ value. degree_list (keys_with value pairs)) (λ w. IsDescending-degree_list (keys_with w pairs)) (remaining (filter_values pairs)))

-- ---- lists made from rows, each of a filter value and a joined key

module _ (k n : ℕ) (pairs : List (ℕ × ℕ)) (within_limit : length pairs ≤ n) where
  as_many : length (filter_values pairs) ≡ length pairs
  as_many = length-map pairs (λ row. row.0)

  pub where_list_is_valid : (passes : ℕ → Bool) → IsList n (compressed_degrees k (keys_where passes pairs))
  where_list_is_valid passes =
      degree_list_is_valid k n (keys_where passes pairs) (omega (arith, length-keys_where passes pairs, count_by-le-length passes (filter_values pairs), as_many, within_limit))

  pub whole_list_is_valid : IsList n (whole k pairs)
  whole_list_is_valid = degree_list_is_valid k n (joined_keys pairs) (omega (arith, length-map pairs (λ row. row.1), within_limit))

  pub value_list_is_valid : (value : ℕ) → IsList n (compressed_degrees k (keys_with value pairs))
  value_list_is_valid value = where_list_is_valid (λ other. eqb other value)

  pub node_list_is_valid : (at_most : ℕ → ℕ → Bool) (size leaf : ℕ) → IsList n (list_of_node at_most k pairs size leaf)
  unfolding list_of_node
  node_list_is_valid at_most size leaf = where_list_is_valid (λ value. in_node size leaf (leaf_of at_most (filter_values pairs) value))

  pub rest_list_is_valid : IsList n (rest k pairs)
  rest_list_is_valid =
      subst (IsList n) (sym (rest-is k pairs))
      (is_compressed k (uncompressed_rest pairs) n (IsDescending-uncompressed_rest pairs)
      (All-from_recursion (λ x. 0 < x) (uncompressed_rest pairs) (positive_rest pairs))
      (omega (arith, ap sum (rest-is k pairs), ap sum (list_without_cell k pairs), value_within k pairs None, within_limit)))
