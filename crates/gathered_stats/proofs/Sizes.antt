-- No list sums to more than the number of its table's rows.
use Rattle.std.proofs.Common.{◌≡◌, ℕ, ◌≤◌, Bool, true, false, cond, eqb, List, [], ◌∷◌, map, length, sum, Option, None, Some, ap, arith}
use Rattle.std.specs.List.{zip}
use Rattle.std.proofs.lemmas.List.{length-map}
use Rattle.std.proofs.lemmas.List.Sums.{count_by-le-length}
use Rattle.std.proofs.lemmas.Slice.Zip.{length-zip}
use Rattle.degree_sequences.specs.Degrees.{degree}
use Rattle.cond_stats.specs.Frequency.{remaining}
use Rattle.cond_stats.specs.Leaves.{leaf_of, in_node}
use Rattle.cond_stats.specs.Lists.{greatest, is_frequent, list_of_node, list_of_value, rest}
use Rattle.cond_stats.specs.Rows.{filter_values}
use Rattle.cond_stats.proofs.Sums.{sum-list_of_node, sum-list_of_value, sum-rest}
use Rattle.cond_stats.proofs.ValueLists.{list_without_cell}

degree_at_most_length : (column : List ℕ) (a : ℕ) → degree column a ≤ length column
degree_at_most_length column a = count_by-le-length (λ key. eqb key a) column

greatest_within : (column values : List ℕ) → greatest (map (degree column) values) ≤ length column
greatest_within column [] = omega arith
greatest_within column (v ∷ values) = omega (arith, degree_at_most_length column v, greatest_within column values)

module _ (k : ℕ) (rows : List (ℕ × ℕ)) where
  filter_values_length : length (filter_values rows) ≡ length rows
  filter_values_length = length-map rows (λ row. row.0)

  rest_within : sum (rest k rows) ≤ length rows
  rest_within = omega (arith, sum-rest k rows, greatest_within (filter_values rows) (remaining (filter_values rows)), filter_values_length)

  pub value_within : (cell : Option ℕ) → sum (list_of_value k rows cell) ≤ length rows
  value_within None = omega (arith, ap sum (list_without_cell k rows), rest_within)
  value_within (Some v) = omega (arith, sum-list_of_value k rows v, by (is_frequent rows v))
    where
      by : (b : Bool) → cond b (degree (filter_values rows) v) (sum (rest k rows)) ≤ length rows
      by true = omega (arith, degree_at_most_length (filter_values rows) v, filter_values_length)
      by false = rest_within

  pub node_within : (at_most : ℕ → ℕ → Bool) (size leaf : ℕ) → sum (list_of_node at_most k rows size leaf) ≤ length rows
  node_within at_most size leaf =
      omega (
        arith,
        sum-list_of_node at_most k rows size leaf,
        count_by-le-length (λ v. in_node size leaf (leaf_of at_most (filter_values rows) v)) (filter_values rows),
        filter_values_length,
      )

pub zipped_within : (filter keys : List ℕ) (n : ℕ) → length keys ≤ n → length (zip filter keys) ≤ n
zipped_within filter keys n h = omega (arith, length-zip filter keys, h)
