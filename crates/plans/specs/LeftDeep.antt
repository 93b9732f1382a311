-- Left-deep plans: the orders of n entries, and the plans for n entries.
use Rattle.std.specs.Prelude.{◌≡◌, ℕ, ◌<◌, ◌==◌, List, length}
use Rattle.std.specs.List.{AllByRecursion, IsDistinct}
use Rattle.plans.specs.declared.left_deep.Plan.{Plan}

-- the order has each of the entries 0 to n - 1 once, and no other entry
pub record IsOrder (n : ℕ) (order : List ℕ) : Type 0 where
  pub entries : AllByRecursion (λ entry. entry < n) order
  pub once : IsDistinct ◌==◌ order
  pub all : length order ≡ n

-- a plan for n entries: an order of these entries, a bound for each scan, and for each k from 1 to n a bound for the join of the order's first k
-- entries
pub record IsPlan (n : ℕ) (plan : Plan) : Type 0 where
  pub order : IsOrder n plan.order
  pub scans : length plan.scans ≡ n
  pub levels : length plan.levels ≡ n
