-- A degree list sums to the length of its list of keys, and dominates the keys.
use Rattle.std.proofs.Common.{List, arith, length, map, sum, true, ℕ, ◌≡◌, ◌≤◌}
use Rattle.std.proofs.lemmas.List.Sums.{sum-map}
use Rattle.std.specs.List.{count_by}
use Rattle.degree_sequences.proofs.Counting.{IsDistinct-different, all-count, count_by-is_in, count_by-keys, is_in, is_in-different}
use Rattle.degree_sequences.proofs.DescendingOrder.{IsDescending-sorted_descending, picked-le, sum-sorted_descending}
use Rattle.degree_sequences.proofs.RunningSums.{running_sum-mono, running_sum-le-sum}
use Rattle.degree_sequences.specs.Degrees.{degree, degree_list, different}
use Rattle.degree_sequences.proofs.Indices.{count_by-degree, count_by-passing}
use Rattle.degree_sequences.specs.Domination.{DominatesKeys, DominatesWeights}
use Rattle.degree_sequences.specs.Descending.{IsDescending}

pub sum-degree_list : (L : List ℕ) → sum (degree_list L) ≡ length L
sum-degree_list L =
    let D : List ℕ = different L in
    omega (
      arith,
      sum-sorted_descending (map (degree L) D),
      sum-map (degree L) D,
      count_by-keys (λ x. true) D (IsDistinct-different L) L (is_in-different L),
      all-count L,
    )

pub IsDescending-degree_list : (L : List ℕ) → IsDescending (degree_list L)
IsDescending-degree_list L = IsDescending-sorted_descending (map (degree L) (different L))

pub degree_list_dominates : (L : List ℕ) → DominatesKeys (degree_list L) L
degree_list_dominates L A apart =
    let D : List ℕ = different L in
    omega (
      arith,
      count_by-keys (is_in A) D (IsDistinct-different L) L (is_in-different L),
      picked-le (degree L) (is_in A) D,
      running_sum-mono (degree_list L) (count_by (is_in A) D) (length A) (count_by-is_in D (IsDistinct-different L) A),
    )

pub length_at_most_sum : (s L : List ℕ) → DominatesKeys s L → length L ≤ sum s
length_at_most_sum s L dom =
    let D : List ℕ = different L in
    omega (arith, count_by-passing (is_in D) L (is_in-different L), dom D (IsDistinct-different L), running_sum-le-sum s (length D))

pub degrees_dominated : (s L : List ℕ) → DominatesKeys s L → DominatesWeights s (degree L)
degrees_dominated s L dom A apart = omega (arith, count_by-degree L A apart, dom A apart)

pub keys_dominated : (s L : List ℕ) → DominatesWeights s (degree L) → DominatesKeys s L
keys_dominated s L dom A apart = omega (arith, count_by-degree L A apart, dom A apart)
