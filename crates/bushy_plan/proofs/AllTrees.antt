-- To make all trees over n entries, the last entry is joined to each node of each tree over the other entries.
use Rattle.std.proofs.Common.{◌≡◌, ℕ, zero, suc, ◌+◌, ◌-◌, ◌^◌, ◌<◌, Bool, true, false, cond, refl, ap, sym, ◌∙◌, subst, arith, inl, inr}
use Rattle.std.specs.Prelude.{◌⊎◌}
use Rattle.std.specs.Int.{bit_at}
use Rattle.std.proofs.lemmas.Bool.{cases_eq, cases_lt, cases_order}
use Rattle.std.proofs.lemmas.Nat.{pow_pos}
use Rattle.std.proofs.lemmas.Nat.Bits.{bit_at-lt, bit_at-pow_other, bit_at_above, bit_at_ones}
use Rattle.entry_sets.proofs.Bits.{bit_without_other, bit_without_same, power_within, power_of_next}
use Rattle.order_search.proofs.Tested.{both_true}
use Rattle.bushy_plan.specs.BestTree.{full_set}
use Rattle.bushy_plan.specs.PlanTrees.{IsFirstEntry, IsSplit, IsTreeOver, PlanTree, leaf, node, leaf_bits}
use Rattle.bushy_plan.proofs.LeftDeep.{tree_first}
use Rattle.bushy_plan.proofs.Splitting.{no_split_of_one, same_power, split_sum, tree_set}

-- ---- a property of all trees over n entries

abbrev pub each_with : ℕ → (PlanTree → Bool) → PlanTree → Bool
each_with last test (leaf entry) = test (node (leaf entry) (leaf last))
each_with last test (node left right) =
    cond (test (node (node left right) (leaf last))) (cond (each_with last (λ t. test (node t right)) left) (each_with last (λ t. test (node left t)) right) false) false

abbrev pub each_tree : ℕ → (PlanTree → Bool) → Bool
each_tree zero test = true
each_tree (suc zero) test = test (leaf 0)
each_tree (suc (suc n)) test = each_tree (suc n) (λ t. each_with (suc n) test t)

-- ---- a split without its last entry

pub first_stays : (set last first : ℕ) → set < 2 ^ suc last → bit_at set last ≡ 1 → IsFirstEntry (set - 2 ^ last) first → (first < last) × IsFirstEntry set first
first_stays set last first fits has is_first = (
  below,
  record {
    is_in = sym (bit_without_other last set first has apart) ∙ is_first.is_in;
    none_before = λ entry h. sym (bit_without_other last set entry has (λ same. absurd (omega (arith, below)))) ∙ is_first.none_before entry h;
  },
)
  where
    apart : first ≡ last → ⊥
    apart same = absurd (omega (arith, bit_without_same last set has, ap (bit_at (set - 2 ^ last)) same, is_first.is_in))

    below : first < last
    below = elim (cases_order first last) [
      | inl same ↦ absurd (apart same)
      | inr other ↦ elim other [
        | inl less ↦ less
        | inr more ↦ absurd (omega (arith, bit_at_above set (suc last) first fits (omega arith), sym (bit_without_other last set first has apart), is_first.is_in))
      ]
    ]

split_without_right : (set left right last : ℕ) → set < 2 ^ suc last → IsSplit set left right → bit_at right last ≡ 1 → 0 < right - 2 ^ last → IsSplit (set - 2 ^ last) left (right - 2 ^ last)
split_without_right set left right last fits split has more = record {
  apart = λ entry. elim (cases_eq entry last) [
    | inl same ↦ omega (
      arith,
      ap (bit_at left) same,
      ap (bit_at (right - 2 ^ last)) same,
      ap (bit_at (set - 2 ^ last)) same,
      split.apart last,
      bit_at-lt set last,
      bit_without_same last right has,
      bit_without_same last set in_set,
    )
    | inr apart ↦ omega (arith, split.apart entry, bit_without_other last right entry has apart, bit_without_other last set entry in_set apart)
  ];
  some_left = split.some_left;
  some_right = more;
  first_left = λ first is_first. split.first_left first (first_stays set last first fits in_set is_first).1;
}
  where
    in_set : bit_at set last ≡ 1
    in_set = omega (arith, split.apart last, bit_at-lt set last)

split_without_left : (set left right last : ℕ) → set < 2 ^ suc last → IsSplit set left right → bit_at left last ≡ 1 → 0 < left - 2 ^ last → IsSplit (set - 2 ^ last) (left - 2 ^ last) right
split_without_left set left right last fits split has more = record {
  apart = λ entry. elim (cases_eq entry last) [
    | inl same ↦ omega (
      arith,
      ap (bit_at (left - 2 ^ last)) same,
      ap (bit_at right) same,
      ap (bit_at (set - 2 ^ last)) same,
      split.apart last,
      bit_at-lt set last,
      bit_without_same last left has,
      bit_without_same last set in_set,
    )
    | inr apart ↦ omega (arith, split.apart entry, bit_without_other last left entry has apart, bit_without_other last set entry in_set apart)
  ];
  some_left = more;
  some_right = split.some_right;
  first_left = λ first is_first. (let stays : (first < last) × IsFirstEntry set first = first_stays set last first fits in_set is_first in
      bit_without_other last left first has (λ same. absurd (omega (arith, stays.0))) ∙ split.first_left first stays.1);
}
  where
    in_set : bit_at set last ≡ 1
    in_set = omega (arith, split.apart last, bit_at-lt set last)

-- if the left side of a split has the last entry, it has another entry too, the first entry of the set
left_has_more : (set last : ℕ) (left right : PlanTree) → set < 2 ^ suc last → IsTreeOver set (node left right) → bit_at (leaf_bits left) last ≡ 1 → 0 < leaf_bits left - 2 ^ last
left_has_more set last left right fits is_tree has = elim (cases_lt (2 ^ last) (leaf_bits left)) [
  | inl more ↦ omega arith
  | inr within ↦ (let alone : leaf_bits left ≡ 2 ^ last = omega (arith, power_within last (leaf_bits left) has) in
      let of_set : (first : ℕ) × IsFirstEntry set first = tree_first set (node left right) is_tree in
      let of_right : (first : ℕ) × IsFirstEntry (leaf_bits right) first = tree_first (leaf_bits right) right is_tree.2 in
      let is_last : of_set.0 ≡ last = only_bit of_set.0 alone (is_tree.0.first_left of_set.0 of_set.1) in
      let in_set : bit_at set of_right.0 ≡ 1 = omega (arith, is_tree.0.apart of_right.0, of_right.1.is_in, bit_at-lt set of_right.0) in
      elim (cases_order of_right.0 last) [
        | inl same ↦ absurd (omega (arith, is_tree.0.apart last, has, ap (bit_at (leaf_bits right)) same, of_right.1.is_in, bit_at-lt set last))
        | inr apart ↦ elim apart [
          | inl below ↦ absurd (omega (arith, of_set.1.none_before of_right.0 (omega (arith, is_last)), in_set))
          | inr above ↦ absurd (omega (arith, bit_at_above set (suc last) of_right.0 fits (omega arith), in_set))
        ]
      ])
]
  where
    only_bit : (first : ℕ) → leaf_bits left ≡ 2 ^ last → bit_at (leaf_bits left) first ≡ 1 → first ≡ last
    only_bit first alone is = elim (cases_eq first last) [
      | inl same ↦ same
      | inr apart ↦ absurd (omega (arith, bit_at-pow_other last first apart, ap (λ k. bit_at k first) alone, is))
    ]

-- ---- a tree without its last entry

-- `IsWith last smaller tree`: `tree` is `smaller` with the last entry joined to one of its nodes
abbrev pub IsWith : ℕ → PlanTree → PlanTree → Type 0
IsWith last (leaf entry) tree = tree ≡ node (leaf entry) (leaf last)
IsWith last (node left right) tree =
    (tree ≡ node (node left right) (leaf last))
    ⊎ (((left' : PlanTree) × IsWith last left left' × (tree ≡ node left' right)) ⊎ ((right' : PlanTree) × IsWith last right right' × (tree ≡ node left right')))

pub record TreeWithoutLast (set last : ℕ) (tree : PlanTree) : Type 0 where
  pub rest : PlanTree
  pub is_tree : IsTreeOver (set - 2 ^ last) rest
  pub is_with : IsWith last rest tree

with_root : (last : ℕ) (rest right : PlanTree) → right ≡ leaf last → IsWith last rest (node rest right)
with_root last (leaf entry) right same = ap (λ t. node (leaf entry) t) same
with_root last (node l r) right same = inl (ap (λ t. node (node l r) t) same)

tested_with : (last : ℕ) (test : PlanTree → Bool) (rest tree : PlanTree) → IsWith last rest tree → each_with last test rest ≡ true → test tree ≡ true
tested_with last test (leaf entry) tree is_with h = subst (λ (t : PlanTree). test t ≡ true) (sym is_with) h
tested_with last test (node left right) tree is_with h = elim is_with [
  | inl root ↦ subst (λ (t : PlanTree). test t ≡ true) (sym root) parts.0
  | inr inner ↦ elim inner [
    | inl l ↦ subst (λ (t : PlanTree). test t ≡ true) (sym l.2) (tested_with last (λ t. test (node t right)) left l.0 l.1 sides.0)
    | inr r ↦ subst (λ (t : PlanTree). test t ≡ true) (sym r.2) (tested_with last (λ t. test (node left t)) right r.0 r.1 sides.1)
  ]
]
  where
    parts : (test (node (node left right) (leaf last)) ≡ true) × (cond (each_with last (λ t. test (node t right)) left) (each_with last (λ t. test (node left t)) right) false ≡ true)
    parts = both_true (test (node (node left right) (leaf last))) (cond (each_with last (λ t. test (node t right)) left) (each_with last (λ t. test (node left t)) right) false) h

    sides : (each_with last (λ t. test (node t right)) left ≡ true) × (each_with last (λ t. test (node left t)) right ≡ true)
    sides = both_true (each_with last (λ t. test (node t right)) left) (each_with last (λ t. test (node left t)) right) parts.1

pub only_last : (last : ℕ) (tree : PlanTree) → IsTreeOver (2 ^ last) tree → tree ≡ leaf last
only_last last (leaf entry) is_tree = ap leaf (sym (same_power last entry is_tree))
only_last last (node left right) is_tree = absurd (no_split_of_one last (leaf_bits left) (leaf_bits right) is_tree.0)

remove_last : (set last : ℕ) (tree : PlanTree) → set < 2 ^ suc last → bit_at set last ≡ 1 → 0 < set - 2 ^ last → IsTreeOver set tree → TreeWithoutLast set last tree
remove_last set last (leaf entry) fits has more is_tree = elim (cases_eq last entry) [
  | inl same ↦ absurd (omega (arith, is_tree, ap (λ k. 2 ^ k) same))
  | inr apart ↦ absurd (omega (arith, bit_at-pow_other entry last apart, ap (λ k. bit_at k last) is_tree, has))
]
remove_last set last (node left right) fits has more is_tree = elim (cases_eq (bit_at (leaf_bits right) last) 1) [
  | inr out ↦ (let in_left : bit_at (leaf_bits left) last ≡ 1 = omega (arith, is_tree.0.apart last, bit_at-lt (leaf_bits right) last, bit_at-lt (leaf_bits left) last) in
      let some : 0 < leaf_bits left - 2 ^ last = left_has_more set last left right fits is_tree in_left in
      in_the_left in_left some (remove_last (leaf_bits left) last left (omega (arith, whole)) in_left some is_tree.1))
  | inl in_right ↦ elim (cases_lt (2 ^ last) (leaf_bits right)) [
    | inl some ↦ in_the_right in_right (omega arith) (remove_last (leaf_bits right) last right (omega (arith, whole)) in_right (omega arith) is_tree.2)
    | inr within ↦ (let alone : leaf_bits right ≡ 2 ^ last = omega (arith, power_within last (leaf_bits right) in_right) in
        record {
          rest = left;
          is_tree = subst (λ (k : ℕ). IsTreeOver k left) (omega (arith, whole, alone)) is_tree.1;
          is_with = with_root last left right (only_last last right (subst (λ (k : ℕ). IsTreeOver k right) alone is_tree.2));
        })
  ]
]
  where
    whole : leaf_bits left + leaf_bits right ≡ set
    whole = split_sum set (leaf_bits left) (leaf_bits right) is_tree.0

    in_the_left : bit_at (leaf_bits left) last ≡ 1 → 0 < leaf_bits left - 2 ^ last → TreeWithoutLast (leaf_bits left) last left → TreeWithoutLast set last (node left right)
    in_the_left in_left some rest =
        let rest_set : leaf_bits rest.rest ≡ leaf_bits left - 2 ^ last = tree_set (leaf_bits left - 2 ^ last) rest.rest rest.is_tree in
        record {
          rest = node rest.rest right;
          is_tree = (
            subst (λ (k : ℕ). IsSplit (set - 2 ^ last) k (leaf_bits right)) (sym rest_set) (split_without_left set (leaf_bits left) (leaf_bits right) last fits is_tree.0 in_left some),
            subst (λ (k : ℕ). IsTreeOver k rest.rest) (sym rest_set) rest.is_tree,
            is_tree.2,
          );
          is_with = inr (inl (left, rest.is_with, refl));
        }

    in_the_right : bit_at (leaf_bits right) last ≡ 1 → 0 < leaf_bits right - 2 ^ last → TreeWithoutLast (leaf_bits right) last right → TreeWithoutLast set last (node left right)
    in_the_right in_right some rest =
        let rest_set : leaf_bits rest.rest ≡ leaf_bits right - 2 ^ last = tree_set (leaf_bits right - 2 ^ last) rest.rest rest.is_tree in
        record {
          rest = node left rest.rest;
          is_tree = (
            subst (λ (k : ℕ). IsSplit (set - 2 ^ last) (leaf_bits left) k) (sym rest_set) (split_without_right set (leaf_bits left) (leaf_bits right) last fits is_tree.0 in_right some),
            is_tree.1,
            subst (λ (k : ℕ). IsTreeOver k rest.rest) (sym rest_set) rest.is_tree,
          );
          is_with = inr (inr (right, rest.is_with, refl));
        }

pub without_last : (n : ℕ) (tree : PlanTree) → IsTreeOver (full_set (suc (suc n))) tree → (rest : PlanTree) × IsTreeOver (full_set (suc n)) rest × IsWith (suc n) rest tree
without_last n tree is_tree =
    let rest : TreeWithoutLast (full_set (suc (suc n))) (suc n) tree =
    remove_last (full_set (suc (suc n))) (suc n) tree (omega (arith, pow_pos (suc (suc n)))) (bit_at_ones (suc (suc n)) (suc n) (omega arith)) (omega (arith, power_of_next (suc n), power_of_next n, pow_pos n)) is_tree in
    let others : 2 ^ suc (suc n) - 1 - 2 ^ suc n ≡ 2 ^ suc n - 1 = omega (arith, power_of_next (suc n)) in
    (rest.rest, subst (λ (k : ℕ). IsTreeOver k rest.rest) others rest.is_tree, rest.is_with)

pub at_tree : (n : ℕ) (test : PlanTree → Bool) (tree : PlanTree) → 0 < n → each_tree n test ≡ true → IsTreeOver (full_set n) tree → test tree ≡ true
at_tree zero test tree some h is_tree = absurd (omega arith)
at_tree (suc zero) test tree some h is_tree = subst (λ (t : PlanTree). test t ≡ true) (sym (only_last 0 tree is_tree)) h
at_tree (suc (suc n)) test tree some h is_tree =
    let rest : (rest : PlanTree) × IsTreeOver (full_set (suc n)) rest × IsWith (suc n) rest tree = without_last n tree is_tree in
    tested_with (suc n) test rest.0 tree rest.2 (at_tree (suc n) (λ t. each_with (suc n) test t) rest.0 (omega arith) h rest.1)
