-- What the list of all rows, the list of a value, the rest list and the list of a node sum to.
use Rattle.std.proofs.Common.{◌≡◌, ℕ, ◌+◌, min, Bool, true, false, cond, eqb, List, map, length, sum, Some, refl, ap, sym, ◌∙◌, arith}
use Rattle.std.specs.List.{count_by}
use Rattle.std.proofs.lemmas.List.{length-map}
use Rattle.degree_sequences.specs.Degrees.{degree, degree_list}
use Rattle.degree_sequences.specs.Descending.{IsDescending}
use Rattle.degree_sequences.specs.RunningSums.{capped_at}
use Rattle.degree_sequences.proofs.CompressedLists.{sum-compressed}
use Rattle.degree_sequences.proofs.DegreeLists.{IsDescending-degree_list, sum-degree_list}
use Rattle.degree_sequences.proofs.Minima.{running_sum-capped_at, IsDescending-capped_at}
use Rattle.degree_sequences.proofs.RunningSums.{running_sum-past}
use Rattle.cond_stats.specs.Frequency.{remaining}
use Rattle.cond_stats.specs.Leaves.{leaf_of, in_node}
use Rattle.cond_stats.specs.Lists.{maxima, greatest, whole, keys_with, is_frequent, rest, list_of_value, list_of_node, compressed_degrees}
use Rattle.cond_stats.specs.Rows.{filter_values, joined_keys, keys_where}
use Rattle.cond_stats.proofs.Dominating.{uncompressed_rest, rest-is}
use Rattle.cond_stats.proofs.Maxima.{IsDescending-maxima, greatest-le-sum}
use Rattle.cond_stats.proofs.Members.{length-keys_where}

pub sum-compressed_degrees : (k : ℕ) (keys : List ℕ) → sum (compressed_degrees k keys) ≡ length keys
sum-compressed_degrees k keys = sum-compressed k (degree_list keys) (IsDescending-degree_list keys) ∙ sum-degree_list keys

pub sum-whole : (k : ℕ) (rows : List (ℕ × ℕ)) → sum (whole k rows) ≡ length rows
sum-whole k rows = sum-compressed_degrees k (joined_keys rows) ∙ length-map rows (λ row. row.1)

pub sum-capped_at : (s : List ℕ) (n : ℕ) → sum (capped_at s n) ≡ min (sum s) n
sum-capped_at s n =
    let r : ℕ = length s + length (capped_at s n) in
    omega (arith, running_sum-past (capped_at s n) r (omega arith), running_sum-past s r (omega arith), running_sum-capped_at s n r)

pub IsDescending-uncompressed_rest : (rows : List (ℕ × ℕ)) → IsDescending (uncompressed_rest rows)
IsDescending-uncompressed_rest rows =
    IsDescending-capped_at (maxima (map (λ value. degree_list (keys_with value rows)) (remaining (filter_values rows)))) (greatest (map (degree (filter_values rows)) (remaining (filter_values rows))))
    (IsDescending-maxima (λ value. degree_list (keys_with value rows)) (λ w. IsDescending-degree_list (keys_with w rows)) (remaining (filter_values rows)))

pub sum-uncompressed_rest : (rows : List (ℕ × ℕ)) → sum (uncompressed_rest rows) ≡ greatest (map (degree (filter_values rows)) (remaining (filter_values rows)))
sum-uncompressed_rest rows =
    let f : ℕ → List ℕ = λ value. degree_list (keys_with value rows) in
    let column : List ℕ = filter_values rows in
    let vs : List ℕ = remaining column in
    omega (
      arith,
      sum-capped_at (maxima (map f vs)) (greatest (map (degree column) vs)),
      greatest-le-sum f (degree column) (λ v. sym (sum-degree_list (keys_with v rows) ∙ length-keys_where (λ other. eqb other v) rows)) vs,
    )

pub sum-rest : (k : ℕ) (rows : List (ℕ × ℕ)) → sum (rest k rows) ≡ greatest (map (degree (filter_values rows)) (remaining (filter_values rows)))
sum-rest k rows = ap sum (rest-is k rows) ∙ sum-compressed k (uncompressed_rest rows) (IsDescending-uncompressed_rest rows) ∙ sum-uncompressed_rest rows

pub sum-list_of_value : (k : ℕ) (rows : List (ℕ × ℕ)) (v : ℕ)
    → sum (list_of_value k rows (Some v)) ≡ cond (is_frequent rows v) (degree (filter_values rows) v) (sum (rest k rows))
unfolding list_of_value
sum-list_of_value k rows v = by (is_frequent rows v)
  where
    by : (b : Bool) → sum (cond b (compressed_degrees k (keys_with v rows)) (rest k rows)) ≡ cond b (degree (filter_values rows) v) (sum (rest k rows))
    by true = sum-compressed_degrees k (keys_with v rows) ∙ length-keys_where (λ other. eqb other v) rows
    by false = refl

pub sum-list_of_node : (at_most : ℕ → ℕ → Bool) (k : ℕ) (rows : List (ℕ × ℕ)) (size leaf : ℕ)
    → sum (list_of_node at_most k rows size leaf) ≡ count_by (λ v. in_node size leaf (leaf_of at_most (filter_values rows) v)) (filter_values rows)
unfolding list_of_node
sum-list_of_node at_most k rows size leaf =
    let p : ℕ → Bool = λ v. in_node size leaf (leaf_of at_most (filter_values rows) v) in
    sum-compressed_degrees k (keys_where p rows) ∙ length-keys_where p rows
