-- The loop that lists the levels of an order, entry by entry.
use Rattle.std.proofs.Common.{◌≡◌, ℕ, zero, suc, ◌+◌, ◌-◌, ◌/◌, ◌%◌, ◌^◌, ◌<◌, ◌≤◌, List, [], ◌∷◌, ◌++◌, length, get_or, drop, ap, sym, ◌∙◌, subst, arith}
use Rattle.std.specs.Int.{bit_at}
use Rattle.std.proofs.lemmas.Nat.{pow_pos}
use Rattle.std.proofs.lemmas.Nat.Bits.{bit_at-suc, bit_at-zero, bit_at_lowest}
use Rattle.std.proofs.lemmas.List.{append_assoc, drop_more}
use Rattle.order_search.specs.Orders.{cost, greatest, levels}
use Rattle.plans.specs.LeftDeep.{IsOrder}
use Rattle.order_search.specs.Ways.{IsWay}
use Rattle.entry_sets.proofs.Bits.{entry_below, power_within, power_of_next}
use Rattle.order_search.proofs.Prefixes.{levels_after, levels_are}
use Rattle.order_search.proofs.WholeWays.{way_from_order}

-- the state of the loop after i entries. The other entries of the order are a way through the set of entries that are still to be joined
pub record LevelsOfPrefix (bounds : List ℕ) (n : ℕ) (order : List ℕ) (i placed : ℕ) (so_far_levels : List ℕ) : Type 0 where
  pub within : placed ≤ 2 ^ n - 1
  pub is_way : IsWay (2 ^ n - 1 - placed) (drop i order)
  pub together : so_far_levels ++ levels_after bounds placed (drop i order) ≡ levels bounds order

pub levels_at_start : (bounds : List ℕ) (n : ℕ) (order : List ℕ) → IsOrder n order → LevelsOfPrefix bounds n order 0 0 []
levels_at_start bounds n order is_order = let none : 2 ^ n - 1 - 0 ≡ 2 ^ n - 1 = omega arith in record {
  within = omega arith;
  is_way = rw none (way_from_order n order is_order);
  together = sym (levels_are bounds order);
}

next_way : (bounds : List ℕ) (n : ℕ) (order : List ℕ) (i placed : ℕ) (so_far_levels : List ℕ) → LevelsOfPrefix bounds n order i placed so_far_levels → i < length order
    → IsWay (2 ^ n - 1 - placed) (get_or order i 0 ∷ drop (i + 1) order)
next_way bounds n order i placed so_far_levels so_far more = subst (IsWay (2 ^ n - 1 - placed)) (drop_more order i 0 more) so_far.is_way

pub next_entry : (bounds : List ℕ) (n : ℕ) (order : List ℕ) (i placed : ℕ) (so_far_levels : List ℕ) → LevelsOfPrefix bounds n order i placed so_far_levels → i < length order → get_or order i 0 < n
next_entry bounds n order i placed so_far_levels so_far more =
    entry_below n (2 ^ n - 1 - placed) (get_or order i 0) (omega (arith, pow_pos n)) (next_way bounds n order i placed so_far_levels so_far more).0

pub next_within : (bounds : List ℕ) (n : ℕ) (order : List ℕ) (i placed : ℕ) (so_far_levels : List ℕ) → LevelsOfPrefix bounds n order i placed so_far_levels → i < length order → placed + 2 ^ get_or order i 0 ≤ 2 ^ n - 1
next_within bounds n order i placed so_far_levels so_far more =
    omega (arith, power_within (get_or order i 0) (2 ^ n - 1 - placed) (next_way bounds n order i placed so_far_levels so_far more).0, so_far.within)

next_together : (bounds : List ℕ) (n : ℕ) (order : List ℕ) (i placed : ℕ) (so_far_levels : List ℕ) → LevelsOfPrefix bounds n order i placed so_far_levels → i < length order
    → so_far_levels ++ (get_or bounds (placed + 2 ^ get_or order i 0) 0 ∷ levels_after bounds (placed + 2 ^ get_or order i 0) (drop (i + 1) order)) ≡ levels bounds order
next_together bounds n order i placed so_far_levels so_far more =
    subst (λ (s : List ℕ). so_far_levels ++ levels_after bounds placed s ≡ levels bounds order) (drop_more order i 0 more) so_far.together

placed_no_bit : (entry n placed : ℕ) → placed < 2 ^ n → bit_at (2 ^ n - 1 - placed) entry ≡ 1 → bit_at placed entry ≡ 0
placed_no_bit entry zero placed fits left = let none : placed ≡ 0 = omega arith in rw none (bit_at-zero entry)
placed_no_bit zero (suc n) placed fits left =
    let odd : (2 ^ suc n - 1 - placed) % 2 ≡ 1 = sym (bit_at_lowest (2 ^ suc n - 1 - placed)) ∙ left in
    bit_at_lowest placed ∙ omega (arith, power_of_next n, odd, fits)
placed_no_bit (suc entry) (suc n) placed fits left =
    let half : (2 ^ suc n - 1 - placed) / 2 ≡ 2 ^ n - 1 - placed / 2 = omega (arith, power_of_next n, fits) in
    bit_at-suc placed entry
    ∙ placed_no_bit entry n (placed / 2) (omega (arith, power_of_next n, fits)) (sym (ap (λ k. bit_at k entry) half) ∙ sym (bit_at-suc (2 ^ suc n - 1 - placed) entry) ∙ left)

pub not_placed : (bounds : List ℕ) (n : ℕ) (order : List ℕ) (i placed : ℕ) (so_far_levels : List ℕ) → LevelsOfPrefix bounds n order i placed so_far_levels → i < length order → bit_at placed (get_or order i 0) ≡ 0
not_placed bounds n order i placed so_far_levels so_far more =
    placed_no_bit (get_or order i 0) n placed (omega (arith, pow_pos n, so_far.within)) (next_way bounds n order i placed so_far_levels so_far more).0

below_greatest : (front : List ℕ) (x : ℕ) (behind : List ℕ) → x ≤ greatest (front ++ (x ∷ behind))
below_greatest [] x behind = omega arith
below_greatest (y ∷ front) x behind = omega (arith, below_greatest front x behind)

pub next_bound : (bounds : List ℕ) (n : ℕ) (order : List ℕ) (i placed : ℕ) (so_far_levels : List ℕ) → LevelsOfPrefix bounds n order i placed so_far_levels → i < length order
    → get_or bounds (placed + 2 ^ get_or order i 0) 0 ≤ cost bounds order
next_bound bounds n order i placed so_far_levels so_far more =
    omega (arith, below_greatest so_far_levels (get_or bounds (placed + 2 ^ get_or order i 0) 0) (levels_after bounds (placed + 2 ^ get_or order i 0) (drop (i + 1) order)), ap greatest (next_together bounds n order i placed so_far_levels so_far more))

pub levels_of_next : (bounds : List ℕ) (n : ℕ) (order : List ℕ) (i placed placed' : ℕ) (so_far_levels so_far_levels' : List ℕ) → LevelsOfPrefix bounds n order i placed so_far_levels → i < length order
    → placed' ≡ placed + 2 ^ get_or order i 0 → so_far_levels' ≡ so_far_levels ++ get_or bounds placed' 0 ∷ [] → LevelsOfPrefix bounds n order (i + 1) placed' so_far_levels'
levels_of_next bounds n order i placed placed' so_far_levels so_far_levels' so_far more moved pushed =
    let left : 2 ^ n - 1 - placed - 2 ^ get_or order i 0 ≡ 2 ^ n - 1 - placed' = omega arith in
    record {
      within = omega (arith, next_within bounds n order i placed so_far_levels so_far more);
      is_way = subst (λ k. IsWay k (drop (i + 1) order)) left (next_way bounds n order i placed so_far_levels so_far more).1;
      together = rw (pushed, moved) (append_assoc so_far_levels (get_or bounds (placed + 2 ^ get_or order i 0) 0 ∷ []) (levels_after bounds (placed + 2 ^ get_or order i 0) (drop (i + 1) order))
          ∙ next_together bounds n order i placed so_far_levels so_far more);
    }
