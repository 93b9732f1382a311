-- Each bound along an order is the bound of the set of its first entries. No bound is above the order's cost.
use Rattle.std.proofs.Common.{◌≡◌, ℕ, zero, suc, ◌+◌, ◌-◌, ◌^◌, ◌<◌, ◌≤◌, List, [], ◌∷◌, length, take, get_or, ap, sym, ◌∙◌, add-one, arith}
use Rattle.std.proofs.lemmas.Nat.{pow_pos}
use Rattle.limits.specs.Profile.{greatest_entries, most_entries}
use Rattle.entry_sets.specs.Sets.{entries_of_set, set_of}
use Rattle.entry_sets.proofs.Bits.{power_within}
use Rattle.plans.specs.LeftDeep.{IsOrder}
use Rattle.order_search.specs.Orders.{cost, greatest, levels}
use Rattle.order_search.specs.Ways.{IsWay}
use Rattle.order_search.proofs.Prefixes.{levels_after, levels_are}
use Rattle.order_search.proofs.WholeWays.{way_from_order}
use Rattle.level_bounds.specs.Orders.{IsOrderOfSet}
use Rattle.level_bounds.proofs.Lists.{from_members, at_member}
use Rattle.level_bounds.proofs.SetNumbers.{prefix_of_order}

level_after : (bounds : List ℕ) (placed : ℕ) (order : List ℕ) (k : ℕ) → k < length order
    → get_or (levels_after bounds placed order) k 0 ≡ get_or bounds (placed + set_of (take (suc k) order)) 0
level_after bounds placed [] k k_in_range = absurd (omega arith)
level_after bounds placed (entry ∷ entries) zero k_in_range = ap (λ (n : ℕ). get_or bounds n 0) (omega arith)
level_after bounds placed (entry ∷ entries) (suc k) k_in_range =
    level_after bounds (placed + 2 ^ entry) entries k (omega arith) ∙ ap (λ (n : ℕ). get_or bounds n 0) (omega arith)

pub level_at : (bounds order : List ℕ) (k : ℕ) → k < length order
    → get_or (levels bounds order) k 0 ≡ get_or bounds (set_of (take (k + 1) order)) 0
level_at bounds order k k_in_range =
    ap (λ (s : List ℕ). get_or s k 0) (levels_are bounds order)
    ∙ level_after bounds 0 order k k_in_range
    ∙ ap (λ (n : ℕ). get_or bounds n 0) none
    ∙ ap (λ (n : ℕ). get_or bounds (set_of (take n order)) 0) (sym (add-one k))
  where
    none : 0 + set_of (take (suc k) order) ≡ set_of (take (suc k) order)
    none = omega arith

within_greatest : (xs : List ℕ) (k : ℕ) → get_or xs k 0 ≤ greatest xs
within_greatest [] k = omega arith
within_greatest (x ∷ xs) zero = omega arith
within_greatest (x ∷ xs) (suc k) = omega (arith, within_greatest xs k)

pub level_within_cost : (bounds order : List ℕ) (k : ℕ) → get_or (levels bounds order) k 0 ≤ cost bounds order
level_within_cost bounds order k = within_greatest (levels bounds order) k

-- ---- the first entries of an order as a set

first_entries_within : (k left : ℕ) (entries : List ℕ) → IsWay left entries → set_of (take k entries) ≤ left
first_entries_within zero left entries way = omega arith
first_entries_within (suc k) left [] way = omega arith
first_entries_within (suc k) left (entry ∷ entries) way =
    omega (arith, first_entries_within k (left - 2 ^ entry) entries way.1, power_within entry left way.0)

pub prefix_below : (n k : ℕ) (order : List ℕ) → IsOrder n order → set_of (take k order) < 2 ^ n
prefix_below n k order is = omega (arith, first_entries_within k (2 ^ n - 1) order (way_from_order n order is), pow_pos n)

pub prefix_of : (n k : ℕ) (order : List ℕ) → n ≤ most_entries → IsOrder n order
    → IsOrderOfSet (entries_of_set (set_of (take k order))) (take k order)
prefix_of n k order n_within_limit is =
    prefix_of_order order k
    (from_members (λ entry. entry < greatest_entries) order
    (λ entry here. omega (arith, at_member (λ entry. entry < n) order is.entries entry here, n_within_limit))) is.once
