-- The bounds of all sets of entries, as the list that `choose` takes.
use Rattle.std.specs.Prelude.{ℕ, ◌^◌, min, List, map}
use Rattle.std.specs.List.{range_with_len}
use Rattle.limits.specs.Profile.{top_bound}

-- the bound of each set of n entries. The index of a set is the number whose bits are the set's entries. A bound above the top bound becomes the top
-- bound
unfoldable pub bounds_of_sets : ℕ → (ℕ → ℕ) → List ℕ
bounds_of_sets n bound = map (λ set. min (bound set) top_bound) (range_with_len 0 (2 ^ n))
