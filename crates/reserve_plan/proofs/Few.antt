-- Bounds of the sum and of the greatest number of a list, from a bound of each number.
use Rattle.std.proofs.Common.{ℕ, ◌*◌, ◌≤◌, All, List, [], ◌∷◌, length, sum, arith}
use Rattle.std.proofs.lemmas.List.Elements.{All-head, All-tail}
use Rattle.std.proofs.lemmas.List.Sums.{sum_by-le}
use Rattle.reserve_plan.specs.Rooms.{greatest}

pub sum_at_most : (m : ℕ) (ns : List ℕ) → All (λ n. n ≤ m) ns → sum ns ≤ length ns * m
sum_at_most m ns each = sum_by-le (λ n. n) m ns each

pub greatest_at_most : (m : ℕ) (ns : List ℕ) → All (λ n. n ≤ m) ns → greatest ns ≤ m
greatest_at_most m [] each = omega arith
greatest_at_most m (n ∷ ns) each =
    let first : n ≤ m = All-head (λ n. n ≤ m) n ns each in
    let rest : greatest ns ≤ m = greatest_at_most m ns (All-tail (λ n. n ≤ m) n ns each) in
    omega arith
