-- In a descending list each element before index i is at least the element at index i.
use Rattle.std.proofs.Common.{ℕ, ◌<◌, ◌≤◌, List, length, get_or, take, arith}
use Rattle.std.specs.List.{All}
use Rattle.std.proofs.lemmas.Grind.{get_or_default_zero}
use Rattle.std.proofs.lemmas.List.{get_or-take, length-take}
use Rattle.degree_sequences.proofs.FallingLists.{descends_to}
use Rattle.degree_sequences.specs.Descending.{IsDescending}

pub at_least_element : (s : List ℕ) → IsDescending s → (i : ℕ) → All (λ x. get_or s i 0 ≤ x) (take i s)
at_least_element s fall i k d h =
    let short : length (take i s) ≤ i = omega (arith, length-take i s) in
    let within : length (take i s) ≤ length s = omega (arith, length-take i s) in
    let below : k < i = omega arith in
    omega (arith, get_or-take i s k d below, get_or_default_zero s k d (omega arith), descends_to s fall k i (omega arith))
