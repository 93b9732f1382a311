-- The list of the bounds of all sets has one bound for each set, at the set's number.
use Rattle.std.proofs.Common.{◌≡◌, ℕ, ◌^◌, ◌<◌, min, List, length, arith}
use Rattle.std.specs.Prelude.{slice_index}
use Rattle.std.proofs.lemmas.List.FromFn.{fill_by_all, get_or-map-range_with_len, length-map-range_with_len}
use Rattle.limits.specs.Profile.{top_bound}
use Rattle.plan_answers.specs.Bounds.{bounds_of_sets}

pub list_is_unique : (n : ℕ) (bound : ℕ → ℕ) (bounds : List ℕ) → length bounds ≡ 2 ^ n → ((set : ℕ) → set < 2 ^ n → slice_index bounds set ≡ min (bound set) top_bound) → bounds ≡ bounds_of_sets n bound
unfolding bounds_of_sets
list_is_unique n bound bounds all at = fill_by_all (λ set. min (bound set) top_bound) bounds (2 ^ n) 0 all at

pub length-bounds : (n : ℕ) (bound : ℕ → ℕ) → length (bounds_of_sets n bound) ≡ 2 ^ n
unfolding bounds_of_sets
length-bounds n bound = length-map-range_with_len (λ set. min (bound set) top_bound) 0 (2 ^ n)

pub at_set : (n : ℕ) (bound : ℕ → ℕ) (set : ℕ) → set < 2 ^ n → slice_index (bounds_of_sets n bound) set ≡ min (bound set) top_bound
unfolding bounds_of_sets
at_set n bound set below = get_or-map-range_with_len (λ set. min (bound set) top_bound) 0 (2 ^ n) set set 0 below (omega arith)
