-- The best order, as a call writes it into the caller's room.
use Rattle.std.specs.Prelude.{◌≡◌, ℕ, ◌≤◌, List, map, length}
use Rattle.order_search.specs.Orders.{IsBest, cost, levels}
use Rattle.safebound_lists.specs.Written.{RoomBeginsWith}
use Rattle.safebound_plans.specs.declared.ordering.Level.{Level}
use Rattle.safebound_plans.specs.Given.{MayPlan}
use Rattle.safebound_plans.specs.Bits.{all_in_128_bits}

abbrev pub entries_in : List Level → List ℕ
entries_in front = map (λ (level : Level). level.entry) front

abbrev pub bounds_in : List Level → List ℕ
bounds_in front = map (λ (level : Level). level.bound) front

-- the room now begins with an order and the bounds of its levels, and the rest is as it was
pub record AreLevels (order levels : List ℕ) (old new : List Level) : Type 0 where
  pub front : List Level
  pub entries : entries_in front ≡ order
  pub bounds : bounds_in front ≡ levels
  pub filled : RoomBeginsWith front old new (length order)

-- The room now begins with the levels of the best order by the bounds of all sets of `count` entries. The order's cost is within the budget
pub record IsBestOrder (bounds : List ℕ) (budget : ℕ) (old new : List Level) (count : ℕ) : Type 0 where
  pub given : MayPlan bounds count budget
  pub order : List ℕ
  pub best : IsBest (all_in_128_bits bounds) count order
  pub within : cost (all_in_128_bits bounds) order ≤ budget
  pub counted : length order ≡ count
  pub written : AreLevels order (levels (all_in_128_bits bounds) order) old new
