-- The weight of a tree is the greatest of its bounds, or the sum of its bounds.
use Rattle.std.proofs.Common.{◌≡◌, ℕ, zero, suc, ◌+◌, ◌*◌, ◌-◌, ◌^◌, ◌<◌, ◌≤◌, min, List, get_or, refl, arith, inl, inr}
use Rattle.std.proofs.lemmas.Bool.{cases_lt}
use Rattle.std.proofs.lemmas.Nat.{pow_pos}
use Rattle.std.proofs.lemmas.Nat.Bits.{bit_at_ones}
use Rattle.entry_sets.proofs.Bits.{power_of_next}
use Rattle.bushy_plan.specs.declared.weight.Weighing.TheVariants as weight
use Rattle.bushy_plan.specs.BestTree.{full_set, cost, inner_greatest, inner_sum, total}
use Rattle.bushy_plan.specs.PlanTrees.{IsFirstEntry, IsTreeOver, PlanTree, leaf, node, leaf_bits, inner_count}
use Rattle.bushy_plan.specs.Splits.{weight_of}
use Rattle.bushy_plan.proofs.Lightest.{combined-beyond, combined-within}
use Rattle.bushy_plan.proofs.Splitting.{no_leaf}

pub weighs_greatest : (bounds : List ℕ) (tree : PlanTree) → weight_of weight.Greatest bounds tree ≡ inner_greatest bounds tree
weighs_greatest bounds (leaf entry) = refl
weighs_greatest bounds (node left right) = rw (weighs_greatest bounds left, weighs_greatest bounds right) refl

pub weighs_sum : (most : ℕ) (bounds : List ℕ) (tree : PlanTree) → inner_greatest bounds tree ≤ most
    → weight_of (weight.SumIfBoundsAtMost most) bounds tree ≡ min (inner_sum bounds tree) (2 ^ 128 - 1)
weighs_sum most bounds (leaf entry) low = refl
weighs_sum most bounds (node left right) low =
    let bound : ℕ = get_or bounds (leaf_bits left + leaf_bits right) 0 in
    omega (
      arith,
      combined-within most bound (weight_of (weight.SumIfBoundsAtMost most) bounds left) (weight_of (weight.SumIfBoundsAtMost most) bounds right) (omega arith),
      weighs_sum most bounds left (omega arith),
      weighs_sum most bounds right (omega arith),
    )

pub weighs_most : (most : ℕ) (bounds : List ℕ) (tree : PlanTree) → most < inner_greatest bounds tree → weight_of (weight.SumIfBoundsAtMost most) bounds tree ≡ 2 ^ 128 - 1
weighs_most most bounds (leaf entry) high = absurd (omega arith)
weighs_most most bounds (node left right) high =
    let bound : ℕ = get_or bounds (leaf_bits left + leaf_bits right) 0 in
    elim (cases_lt most bound) [
      | inl beyond ↦ combined-beyond most bound (weight_of (weight.SumIfBoundsAtMost most) bounds left) (weight_of (weight.SumIfBoundsAtMost most) bounds right) beyond
      | inr within ↦ elim (cases_lt most (inner_greatest bounds left)) [
        | inl above ↦ omega (
          arith,
          combined-within most bound (weight_of (weight.SumIfBoundsAtMost most) bounds left) (weight_of (weight.SumIfBoundsAtMost most) bounds right) within,
          weighs_most most bounds left above,
        )
        | inr below ↦ omega (
          arith,
          combined-within most bound (weight_of (weight.SumIfBoundsAtMost most) bounds left) (weight_of (weight.SumIfBoundsAtMost most) bounds right) within,
          weighs_most most bounds right (omega arith),
        )
      ]
    ]

-- 2^59 is the greatest budget. A tree has fewer inner nodes than entries, so the sum of its bounds fits into 64 bits
pub sum_at_most : (bounds : List ℕ) (tree : PlanTree) → inner_greatest bounds tree ≤ 2 ^ 59 → inner_sum bounds tree ≤ inner_count tree * 2 ^ 59
sum_at_most bounds (leaf entry) low = omega arith
sum_at_most bounds (node left right) low = omega (arith, sum_at_most bounds left (omega arith), sum_at_most bounds right (omega arith))

pub greatest_at_most_cost : (bounds : List ℕ) (tree : PlanTree) → inner_greatest bounds tree ≤ cost bounds tree
greatest_at_most_cost bounds (leaf entry) = omega arith
greatest_at_most_cost bounds (node left right) = omega arith

-- ---- trees over all entries

pub first_of_all : (n : ℕ) → 0 < n → IsFirstEntry (full_set n) 0
first_of_all n some = record { is_in = bit_at_ones n 0 some; none_before = λ entry below. absurd (omega arith) }

pub more_than_first : (n : ℕ) → 1 < n → 0 < full_set n - 2 ^ 0
more_than_first zero h = absurd (omega arith)
more_than_first (suc zero) h = absurd (omega arith)
more_than_first (suc (suc n)) h = omega (arith, power_of_next (suc n), power_of_next n, pow_pos n)

pub no_leaf_of_all : (n entry : ℕ) → 1 < n → IsTreeOver (full_set n) (leaf entry) → ⊥
no_leaf_of_all n entry more is_tree = no_leaf (full_set n) 0 entry (first_of_all n (omega arith)) (more_than_first n more) is_tree

pub cost_inside : (bounds : List ℕ) (n : ℕ) (tree : PlanTree) → 1 < n → IsTreeOver (full_set n) tree → cost bounds tree ≡ inner_greatest bounds tree
cost_inside bounds n (leaf entry) more is_tree = absurd (no_leaf_of_all n entry more is_tree)
cost_inside bounds n (node left right) more is_tree = refl

pub total_inside : (bounds : List ℕ) (n : ℕ) (tree : PlanTree) → 1 < n → IsTreeOver (full_set n) tree → total bounds tree ≡ inner_sum bounds tree
total_inside bounds n (leaf entry) more is_tree = absurd (no_leaf_of_all n entry more is_tree)
total_inside bounds n (node left right) more is_tree = refl
