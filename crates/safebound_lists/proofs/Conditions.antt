-- Bounds on how many rows with a picked key satisfy both of two conditions, or at least one of them. Also bounds on the running sums of the
-- greater of two lists.
use Rattle.std.proofs.Common.{◌≡◌, ℕ, zero, suc, ◌+◌, ◌≤◌, Bool, true, false, ◌&&◌, ◌||◌, cond, List, [], ◌∷◌, map, ◌∙◌, sym, arith}
use Rattle.std.specs.List.{count_by, filter, sum_by}
use Rattle.std.proofs.lemmas.List.Sums.{sum_by-le-sum_by}
use Rattle.degree_sequences.specs.ByRank.{rank_maximum}
use Rattle.degree_sequences.specs.RunningSums.{running_sum}
use Rattle.degree_sequences.proofs.Counting.{sum_by-both-le, sum_by-filter, sum_by-map}

module _ (picked : ℕ → Bool) (key : ℕ → ℕ) where
  abbrev pub picked_count : (ℕ → Bool) → List ℕ → ℕ
  picked_count passes rows = count_by picked (map key (filter passes rows))

  if_picked : ℕ → ℕ
  if_picked row = cond (picked (key row)) 1 0

  number_is : (passes : ℕ → Bool) (rows : List ℕ) → picked_count passes rows ≡ sum_by (λ row. cond (passes row) (if_picked row) 0) rows
  unfolding if_picked
  number_is passes rows =
      sum_by-map (λ a. cond (picked a) 1 0) key (filter passes rows) ∙ sym (sum_by-filter passes (λ row. cond (picked (key row)) 1 0) rows)

  at_most_without_second : (p q : Bool) (n : ℕ) → cond (p && q) n 0 ≤ cond p n 0
  at_most_without_second true true n = omega arith
  at_most_without_second true false n = omega arith
  at_most_without_second false q n = omega arith

  at_most_without_first : (p q : Bool) (n : ℕ) → cond (p && q) n 0 ≤ cond q n 0
  at_most_without_first true true n = omega arith
  at_most_without_first true false n = omega arith
  at_most_without_first false q n = omega arith

  at_most_sum_of_both : (p q : Bool) (n : ℕ) → cond (p || q) n 0 ≤ cond p n 0 + cond q n 0
  at_most_sum_of_both true true n = omega arith
  at_most_sum_of_both true false n = omega arith
  at_most_sum_of_both false q n = omega arith

  module _ (first second : ℕ → Bool) (rows : List ℕ) where
    pub both_are_at_most_first : picked_count (λ row. first row && second row) rows ≤ picked_count first rows
    both_are_at_most_first =
        omega (
          arith,
          number_is (λ row. first row && second row) rows,
          number_is first rows,
          sum_by-le-sum_by (λ row. cond (first row && second row) (if_picked row) 0) (λ row. cond (first row) (if_picked row) 0) rows (λ row. at_most_without_second (first row) (second row) (if_picked row)),
        )

    pub both_are_at_most_second : picked_count (λ row. first row && second row) rows ≤ picked_count second rows
    both_are_at_most_second =
        omega (
          arith,
          number_is (λ row. first row && second row) rows,
          number_is second rows,
          sum_by-le-sum_by (λ row. cond (first row && second row) (if_picked row) 0) (λ row. cond (second row) (if_picked row) 0) rows (λ row. at_most_without_first (first row) (second row) (if_picked row)),
        )

    pub at_least_one_is_at_most_sum : picked_count (λ row. first row || second row) rows ≤ picked_count first rows + picked_count second rows
    at_least_one_is_at_most_sum =
        omega (
          arith,
          number_is (λ row. first row || second row) rows,
          number_is first rows,
          number_is second rows,
          sum_by-both-le (λ row. cond (first row || second row) (if_picked row) 0) (λ row. cond (first row) (if_picked row) 0) (λ row. cond (second row) (if_picked row) 0)
              (λ row. at_most_sum_of_both (first row) (second row) (if_picked row)) rows,
        )

-- ---- the running sums of the greater of two lists are at least the running sums of each list

pub greater_is_above_first : (s t : List ℕ) (r : ℕ) → running_sum s r ≤ running_sum (rank_maximum s t) r
greater_is_above_first s t zero = omega arith
greater_is_above_first [] t (suc r) = omega arith
greater_is_above_first (x ∷ s) [] (suc r) = omega arith
greater_is_above_first (x ∷ s) (y ∷ t) (suc r) = omega (arith, greater_is_above_first s t r)

pub greater_is_above_second : (s t : List ℕ) (r : ℕ) → running_sum t r ≤ running_sum (rank_maximum s t) r
greater_is_above_second s t zero = omega arith
greater_is_above_second [] t (suc r) = omega arith
greater_is_above_second (x ∷ s) [] (suc r) = omega arith
greater_is_above_second (x ∷ s) (y ∷ t) (suc r) = omega (arith, greater_is_above_second s t r)
