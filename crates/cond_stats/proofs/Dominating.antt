-- The list of a value dominates the keys of the rows with this value, whether the value is frequent or not.
use Rattle.std.proofs.Common.{◌≡◌, ℕ, ◌≤◌, Bool, true, false, eqb, Some, List, map, length, refl, ap, arith, inl, inr}
use Rattle.std.specs.List.{list_any}
use Rattle.std.proofs.lemmas.Bool.{cond_both, cases_lt}
use Rattle.std.proofs.lemmas.List.Sums.{count_by-le-length}
use Rattle.degree_sequences.specs.Compression.{compressed}
use Rattle.degree_sequences.specs.Degrees.{degree, degree_list}
use Rattle.degree_sequences.specs.Domination.{DominatesKeys}
use Rattle.degree_sequences.specs.RunningSums.{running_sum, capped_at}
use Rattle.degree_sequences.proofs.CompressedLists.{compressed_dominates, compressed-above}
use Rattle.degree_sequences.proofs.Counting.{is_in}
use Rattle.degree_sequences.proofs.DegreeLists.{degree_list_dominates, IsDescending-degree_list, sum-degree_list}
use Rattle.degree_sequences.proofs.Minima.{running_sum-capped_at, IsDescending-capped_at}
use Rattle.degree_sequences.proofs.RunningSums.{running_sum-le-sum}
use Rattle.cond_stats.specs.Frequency.{remaining}
use Rattle.cond_stats.specs.Lists.{maxima, greatest, keys_with, is_frequent, rest, list_of_value, list_where, compressed_degrees}
use Rattle.cond_stats.specs.Rows.{filter_values, keys_where}
use Rattle.cond_stats.proofs.Maxima.{above_by_rank, maxima-above, greatest-above, IsDescending-maxima}
use Rattle.cond_stats.proofs.Members.{frequent_or_remaining, length-keys_where, count_by-weaker}

abbrev pub uncompressed_rest : List (ℕ × ℕ) → List ℕ
uncompressed_rest rows = capped_at (maxima (map (λ value. degree_list (keys_with value rows)) (remaining (filter_values rows))))
    (greatest (map (degree (filter_values rows)) (remaining (filter_values rows))))

pub rest-is : (k : ℕ) (rows : List (ℕ × ℕ)) → rest k rows ≡ compressed k (uncompressed_rest rows)
unfolding rest
rest-is k rows = refl

keys_with-count : (rows : List (ℕ × ℕ)) (v : ℕ) → length (keys_with v rows) ≡ degree (filter_values rows) v
keys_with-count rows v = length-keys_where (λ other. eqb other v) rows

pub uncompressed_above : (rows : List (ℕ × ℕ)) (v : ℕ) → is_in (remaining (filter_values rows)) v ≡ true → (r : ℕ)
    → running_sum (degree_list (keys_with v rows)) r ≤ running_sum (uncompressed_rest rows) r
uncompressed_above rows v inside r =
    let f : ℕ → List ℕ = λ value. degree_list (keys_with value rows) in
    let column : List ℕ = filter_values rows in
    let vs : List ℕ = remaining column in
    omega (
      arith,
      running_sum-capped_at (maxima (map f vs)) (greatest (map (degree column) vs)) r,
      above_by_rank (maxima (map f vs)) (f v) (maxima-above f vs v inside) r,
      running_sum-le-sum (f v) r,
      sum-degree_list (keys_with v rows),
      keys_with-count rows v,
      greatest-above (degree column) vs v inside,
    )

rest_dominates : (k : ℕ) (rows : List (ℕ × ℕ)) (v : ℕ) → is_frequent rows v ≡ false → DominatesKeys (rest k rows) (keys_with v rows)
rest_dominates k rows v not_frequent A apart =
    let keys : List ℕ = keys_with v rows in
    elim (cases_lt 0 (degree (filter_values rows) v)) [
      | inl some ↦ (let f : ℕ → List ℕ = λ value. degree_list (keys_with value rows) in
          let inside : is_in (remaining (filter_values rows)) v ≡ true = frequent_or_remaining (filter_values rows) v some not_frequent in
          let is : running_sum (rest k rows) (length A) ≡ running_sum (compressed k (uncompressed_rest rows)) (length A) = ap (λ s. running_sum s (length A)) (rest-is k rows) in
          omega (
            arith,
            is,
            degree_list_dominates keys A apart,
            uncompressed_above rows v inside (length A),
            compressed-above k (uncompressed_rest rows)
                (IsDescending-capped_at (maxima (map f (remaining (filter_values rows)))) (greatest (map (degree (filter_values rows)) (remaining (filter_values rows))))
                (IsDescending-maxima f (λ w. IsDescending-degree_list (keys_with w rows)) (remaining (filter_values rows)))) (length A),
          ))
      | inr none ↦ omega (arith, count_by-le-length (λ key. list_any (λ a. eqb key a) A) keys, keys_with-count rows v)
    ]

pub value_dominates : (k : ℕ) (rows : List (ℕ × ℕ)) (v : ℕ) → DominatesKeys (list_of_value k rows (Some v)) (keys_with v rows)
unfolding list_of_value
value_dominates k rows v = cond_both (is_frequent rows v) (compressed_degrees k (keys_with v rows)) (rest k rows) (λ s. DominatesKeys s (keys_with v rows))
    (λ e. compressed_dominates k (keys_with v rows)) (λ e. rest_dominates k rows v e)

pub where_dominates : (k : ℕ) (p q : ℕ → Bool) → ((v : ℕ) → p v ≡ true → q v ≡ true) → (rows : List (ℕ × ℕ)) → DominatesKeys (list_where k q rows) (keys_where p rows)
where_dominates k p q weaker rows A apart =
    omega (arith, compressed_dominates k (keys_where q rows) A apart, count_by-weaker (λ key. list_any (λ a. eqb key a) A) p q weaker rows)
