-- The bounds of all sets of the first n entries.
use Rattle.std.specs.Prelude.{ℕ, ◌-◌, ◌^◌, List, map}
use Rattle.std.specs.List.{range_with_len}
use Rattle.degree_sequences.specs.Saturation.{saturated}
use Rattle.berge_tree.specs.declared.edges.Edge.{Edge}
use Rattle.tree_bounds.specs.SetBounds.{bound_of_set}
use Rattle.tree_bounds.specs.TreeBounds.{EntryBounds}

-- the set of the first n entries
abbrev pub first_entries : ℕ → ℕ
first_entries n = 2 ^ n - 1

-- the bound of a set, or 2^128 - 1 if it is larger
abbrev pub bound_in_128_bits : EntryBounds → List Edge → ℕ → ℕ
bound_in_128_bits b es subset = saturated (bound_of_set b es subset)

-- the bounds of all sets whose numbers are below k. The entries' row bounds and lists (`b`) may depend on the set in which the entries are joined
abbrev pub bounds_below : (ℕ → EntryBounds) → List Edge → ℕ → List ℕ
bounds_below b es k = map (λ subset. bound_in_128_bits (b subset) es subset) (range_with_len 0 k)

-- the bounds of all sets of the first n entries, each at the index whose bits are the set's entries
abbrev pub bounds_in_sets : (ℕ → EntryBounds) → List Edge → ℕ → List ℕ
bounds_in_sets b es n = bounds_below b es (2 ^ n)

-- the same row bounds and lists in every set
abbrev pub in_every_set : EntryBounds → ℕ → EntryBounds
in_every_set b subset = b

abbrev pub bounds_of_sets : EntryBounds → List Edge → ℕ → List ℕ
bounds_of_sets b es n = bounds_in_sets (in_every_set b) es n
