-- Join trees. A set of entries is a number: entry x is in the set if bit x is 1.
use Rattle.std.specs.Prelude.{◌≡◌, ℕ, ◌+◌, ◌^◌, ◌<◌, List, [], ◌∷◌, ◌++◌, slice_index}
use Rattle.std.specs.Int.{bit_at}
use Rattle.plans.specs.declared.bushy.Join.{Join}

-- a leaf is an entry; an inner node joins its left and its right subtree
pub data PlanTree : Type 0 where
  leaf : ℕ → PlanTree
  node : PlanTree → PlanTree → PlanTree

-- the set of the entries at a tree's leaves
abbrev pub leaf_bits : PlanTree → ℕ
leaf_bits (leaf entry) = 2 ^ entry
leaf_bits (node left right) = leaf_bits left + leaf_bits right

-- the entry `first` is in the set, and no entry with a lower number is
pub record IsFirstEntry (set first : ℕ) : Type 0 where
  pub is_in : bit_at set first ≡ 1
  pub none_before : (entry : ℕ) → entry < first → bit_at set entry ≡ 0

-- a split of the set into a left and a right set. Each entry of the set is in exactly one of these two sets. Neither of them is empty, and the left
-- set has the set's first entry
pub record IsSplit (set left right : ℕ) : Type 0 where
  pub apart : (entry : ℕ) → bit_at left entry + bit_at right entry ≡ bit_at set entry
  pub some_left : 0 < left
  pub some_right : 0 < right
  pub first_left : (first : ℕ) → IsFirstEntry set first → bit_at left first ≡ 1

-- the tree is a tree over the set: the leaf of its only entry, or a split of the set with a tree over each side
abbrev pub IsTreeOver : ℕ → PlanTree → Type 0
IsTreeOver set (leaf entry) = set ≡ 2 ^ entry
IsTreeOver set (node left right) = IsSplit set (leaf_bits left) (leaf_bits right) × IsTreeOver (leaf_bits left) left
    × IsTreeOver (leaf_bits right) right

-- the number of a tree's inner nodes
abbrev pub inner_count : PlanTree → ℕ
inner_count (leaf entry) = 0
inner_count (node left right) = inner_count left + inner_count right + 1

-- the number of a tree's root. The number of a leaf is its entry. Inner nodes are numbered from `next`: first the inner nodes of the left subtree,
-- then those of the right subtree, then the root
abbrev pub root_number : ℕ → PlanTree → ℕ
root_number next (leaf entry) = entry
root_number next (node left right) = next + inner_count left + inner_count right

-- the joins of the inner nodes in the order of their numbers, each with the bound of its entries' set
abbrev pub joins_from : List ℕ → ℕ → PlanTree → List Join
joins_from bounds next (leaf entry) = []
joins_from bounds next (node left right) =
    joins_from bounds next left
    ++ joins_from bounds (next + inner_count left) right
    ++ record {
      left = root_number next left;
      right = root_number (next + inner_count left) right;
      bound = slice_index bounds (leaf_bits left + leaf_bits right);
    } ∷ []
