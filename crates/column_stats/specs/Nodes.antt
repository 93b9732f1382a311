-- The lists of a column's 63 nodes in one list. Smaller nodes come first, and nodes of one size are in the order of their leaves.
use Rattle.std.specs.Prelude.{ℕ, ◌+◌, ◌-◌, ◌*◌, ◌/◌, Bool, List, [], ◌∷◌, map}
use Rattle.std.specs.List.{flat_map, range_with_len}
use Rattle.cond_stats.specs.Lists.{list_of_node}

abbrev pub node_sizes : List ℕ
node_sizes = 1 ∷ 2 ∷ 4 ∷ 8 ∷ 16 ∷ 32 ∷ []

-- the lists of the nodes of one size
abbrev pub lists_of_size : (ℕ → ℕ → Bool) → ℕ → List (ℕ × ℕ) → ℕ → List (List ℕ)
lists_of_size at_most accuracy rows size = map (λ i. list_of_node at_most accuracy rows size (size * i)) (range_with_len 0 (32 / size))

-- the lists of all nodes. A column without rows has no nodes
abbrev pub node_lists : (ℕ → ℕ → Bool) → ℕ → List (ℕ × ℕ) → List (List ℕ)
node_lists at_most accuracy [] = []
node_lists at_most accuracy (row ∷ rows) = flat_map (lists_of_size at_most accuracy (row ∷ rows)) node_sizes

-- the index of the node of this size that holds this leaf. The smaller nodes, 64 - 64 / size of them, come before the nodes of this size
abbrev pub node_place : ℕ → ℕ → ℕ
node_place size leaf = 64 - 64 / size + leaf / size
