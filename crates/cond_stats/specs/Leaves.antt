-- The leaves of a column, and the nodes above them. The leaves are 32 ranges of the column's values, cut at equal numbers of rows. Where one
-- value has many rows, some leaves are empty.
-- How values compare is a parameter: `at_most a b` says that a is at most b.
use Rattle.std.specs.Prelude.{ℕ, suc, ◌*◌, ◌/◌, ◌==◌, Bool, if◌then◌else◌, List, [], ◌∷◌, map, length, slice_index, find, unwrap_or, Contains}
use Rattle.std.specs.List.{list_any, range_with_len}

-- an ascending list with one more value, put where it belongs
abbrev pub put_in_order : (ℕ → ℕ → Bool) → ℕ → List ℕ → List ℕ
put_in_order at_most value [] = value ∷ []
put_in_order at_most value (other ∷ others) =
    if at_most value other then value ∷ (other ∷ others) else (other ∷ put_in_order at_most value others)

-- the values of a list in ascending order
abbrev pub in_order : (ℕ → ℕ → Bool) → List ℕ → List ℕ
in_order at_most [] = []
in_order at_most (value ∷ values) = put_in_order at_most value (in_order at_most values)

-- The values at which the leaves begin. Of n values in ascending order, they are at the indexes n * i / 32, for i from 0 to 31.
-- A column without rows has no cuts
unfoldable pub cuts : (ℕ → ℕ → Bool) → List ℕ → List ℕ
cuts at_most [] = []
cuts at_most (value ∷ values) =
    map (λ i. slice_index (in_order at_most (value ∷ values)) (length (value ∷ values) * i / 32)) (range_with_len 0 32)

-- the index of the last element that passes, or 0 if no element passes
abbrev pub last_place : (ℕ → Bool) → List ℕ → ℕ
last_place passes [] = 0
last_place passes (x ∷ xs) = if list_any passes xs then suc (last_place passes xs) else 0

-- the last leaf whose cut passes, or 0 where no cut passes
abbrev pub last_leaf_where : (ℕ → ℕ → Bool) → List ℕ → (ℕ → Bool) → ℕ
last_leaf_where at_most column passes = last_place passes (cuts at_most column)

-- the leaf of a value: the last leaf whose cut is at most the value, or 0 if there is no such cut
abbrev pub leaf_of : (ℕ → ℕ → Bool) → List ℕ → ℕ → ℕ
leaf_of at_most column value = last_leaf_where at_most column (λ cut. at_most cut value)

-- the size of the least node that holds both leaves. A node has a size of 1, 2, 4, 8, 16 or 32 leaves, and begins at a multiple of its size
abbrev pub node_size : ℕ → ℕ → ℕ
node_size low high = unwrap_or (find (λ size. low / size == high / size) (1 ∷ 2 ∷ 4 ∷ 8 ∷ 16 ∷ [])) 32

-- whether the node of this size that holds `leaf` holds `other` too
abbrev pub in_node : ℕ → ℕ → ℕ → Bool
in_node size leaf other = other / size == leaf / size

-- a size that nodes have
abbrev pub IsNodeSize : ℕ → Type 0
IsNodeSize size = Contains (1 ∷ 2 ∷ 4 ∷ 8 ∷ 16 ∷ 32 ∷ []) size
