-- A set has as many entries as an order of the set.
use Rattle.std.proofs.Common.{◌≡◌, ℕ, ◌≤◌, eqb, List, length, arith}
use Rattle.std.specs.List.{AllByRecursion, Contains, IsDistinct}
use Rattle.std.proofs.lemmas.Cmp.{nat_eq_equiv}
use Rattle.std.proofs.lemmas.Map.Made.{length-le_from_is_member}
use Rattle.entry_sets.specs.Sets.{entries_of_set}
use Rattle.level_bounds.specs.Orders.{IsOrderOfSet}
use Rattle.level_bounds.proofs.Lists.{at_member, test_of_member, in_from_test}
use Rattle.level_bounds.proofs.SetNumbers.{set_is_distinct}

distinct_not_longer : (xs ys : List ℕ) → IsDistinct eqb xs → AllByRecursion (Contains ys) xs → length xs ≤ length ys
distinct_not_longer xs ys once within =
    length-le_from_is_member nat_eq_equiv xs ys once (λ x is. test_of_member ys x (at_member (Contains ys) xs within x (in_from_test xs x is)))

pub set_size : (set : ℕ) (order : List ℕ) → IsOrderOfSet (entries_of_set set) order → length (entries_of_set set) ≡ length order
set_size set order o =
    omega (arith, distinct_not_longer (entries_of_set set) order (set_is_distinct set) o.covers, distinct_not_longer order (entries_of_set set) o.once o.within)
