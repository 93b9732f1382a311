-- The right sets of a set's splits are the nonempty subsets of the set without its first entry.
use Rattle.std.proofs.Common.{◌≡◌, ℕ, ◌+◌, ◌-◌, ◌^◌, ◌<◌, ◌≤◌, ap, sym, ◌∙◌, subst, arith, inl, inr}
use Rattle.std.specs.Int.{Width, bit_at, trailing_zeros}
use mir.Val.{bits}
use Rattle.std.proofs.lemmas.Nat.{pow_pos}
use Rattle.std.proofs.lemmas.Nat.Bits.{bit_at-lt, bit_at-pow_same, bit_at-pow_other, same_from_bits, bit_at-trailing_zeros}
use Rattle.std.proofs.lemmas.Bool.{cases_eq, cases_order}
use Rattle.entry_sets.proofs.Bits.{bit_without_other, bit_without_same, power_within}
use Rattle.bushy_plan.specs.PlanTrees.{IsFirstEntry, IsSplit, IsTreeOver, PlanTree, leaf, node, leaf_bits}
use Rattle.bushy_plan.proofs.Parts.{IsPart, bits_without, part_le}

pub one_first : (set a b : ℕ) → IsFirstEntry set a → IsFirstEntry set b → a ≡ b
one_first set a b p q = elim (cases_order a b) [
  | inl same ↦ same
  | inr apart ↦ elim apart [
    | inl below ↦ absurd (omega (arith, q.none_before a below, p.is_in))
    | inr above ↦ absurd (omega (arith, p.none_before b above, q.is_in))
  ]
]

pub first_by_zeros : (w : Width) (set : ℕ) → 0 < set → set < 2 ^ bits w → IsFirstEntry set (trailing_zeros w set)
first_by_zeros w set some fits =
    let place : (trailing_zeros w set < bits w) × (bit_at set (trailing_zeros w set) ≡ 1) × ((i : ℕ) → i < trailing_zeros w set → bit_at set i ≡ 0) =
    bit_at-trailing_zeros w set some fits in
    record { is_in = place.1; none_before = place.2 }

pub split_of_part : (set first right : ℕ) → IsFirstEntry set first → IsPart right (set - 2 ^ first) → 0 < right → IsSplit set (set - right) right
split_of_part set first right is_first is_part some = record {
  apart = λ entry. bits_without right set entry within;
  some_left = omega (arith, part_le right (set - 2 ^ first) is_part, power_within first set is_first.is_in, pow_pos first);
  some_right = some;
  first_left = λ other is_other. (let same : other ≡ first = one_first set other first is_other is_first in
      let has_not : bit_at right first ≡ 0 = omega (arith, is_part.has first, bit_without_same first set is_first.is_in) in
      ap (bit_at (set - right)) same ∙ omega (arith, bits_without right set first within, is_first.is_in, has_not));
}
  where
    within : IsPart right set
    within = record {
      has = λ entry. elim (cases_eq entry first) [
        | inl same ↦ omega (arith, ap (bit_at set) same, is_first.is_in, bit_at-lt right entry)
        | inr apart ↦ omega (arith, is_part.has entry, bit_without_other first set entry is_first.is_in apart)
      ];
    }

pub part_of_split : (set first left right : ℕ) → IsFirstEntry set first → IsSplit set left right → IsPart right (set - 2 ^ first)
part_of_split set first left right is_first split = record {
  has = λ entry. elim (cases_eq entry first) [
    | inl same ↦ omega (arith, ap (bit_at right) same, split.apart first, split.first_left first is_first, is_first.is_in)
    | inr apart ↦ omega (arith, split.apart entry, bit_without_other first set entry is_first.is_in apart)
  ];
}

right_part : (set left right : ℕ) → IsSplit set left right → IsPart right set
right_part set left right split = record { has = λ entry. omega (arith, split.apart entry) }

pub split_right_le : (set left right : ℕ) → IsSplit set left right → right ≤ set
split_right_le set left right split = part_le right set (right_part set left right split)

pub split_left : (set left right : ℕ) → IsSplit set left right → left ≡ set - right
split_left set left right split =
    same_from_bits left (set - right) (λ entry. omega (arith, split.apart entry, bits_without right set entry (right_part set left right split)))

pub split_sum : (set left right : ℕ) → IsSplit set left right → left + right ≡ set
split_sum set left right split = omega (arith, split_left set left right split, split_right_le set left right split)

pub split_by_right : (set left right : ℕ) → IsSplit set left right → IsSplit set (set - right) right
split_by_right set left right split = subst (λ (k : ℕ). IsSplit set k right) (split_left set left right split) split

-- ---- trees and their sets

pub tree_set : (set : ℕ) (tree : PlanTree) → IsTreeOver set tree → leaf_bits tree ≡ set
tree_set set (leaf entry) is_tree = sym is_tree
tree_set set (node left right) is_tree = split_sum set (leaf_bits left) (leaf_bits right) is_tree.0

pub some_entries : (tree : PlanTree) → 0 < leaf_bits tree
some_entries (leaf entry) = pow_pos entry
some_entries (node left right) = omega (arith, some_entries left)

pub same_power : (a b : ℕ) → 2 ^ a ≡ 2 ^ b → a ≡ b
same_power a b same = elim (cases_eq a b) [
  | inl equal ↦ equal
  | inr apart ↦ absurd (omega (arith, bit_at-pow_same a, bit_at-pow_other b a apart, ap (λ k. bit_at k a) same))
]

pub first_of_power : (entry : ℕ) → IsFirstEntry (2 ^ entry) entry
first_of_power entry = record {
  is_in = bit_at-pow_same entry;
  none_before = λ other below. bit_at-pow_other entry other (λ same. absurd (omega arith));
}

pub no_split_of_one : (entry left right : ℕ) → IsSplit (2 ^ entry) left right → ⊥
no_split_of_one entry left right split =
    omega (arith, split.some_right, part_le right (2 ^ entry - 2 ^ entry) (part_of_split (2 ^ entry) entry left right (first_of_power entry) split))

pub no_leaf : (set first entry : ℕ) → IsFirstEntry set first → 0 < set - 2 ^ first → IsTreeOver set (leaf entry) → ⊥
no_leaf set first entry is_first more is_tree =
    let same : first ≡ entry = one_first set first entry is_first (subst (λ (k : ℕ). IsFirstEntry k entry) (sym is_tree) (first_of_power entry)) in
    omega (arith, is_tree, ap (λ k. 2 ^ k) same)

pub only_leaf : (set first : ℕ) → IsFirstEntry set first → set - 2 ^ first ≡ 0 → set ≡ 2 ^ first
only_leaf set first is_first none = omega (arith, power_within first set is_first.is_in)
