-- Which bounds and budgets a call for a plan accepts.
use Rattle.std.specs.Prelude.{◌≡◌, ℕ, ◌^◌, ◌≤◌, List, length}
use Rattle.limits.specs.Profile.{greatest_budget, greatest_entries}

-- there are 2^n bounds, one for each set of n entries, and n is from 1 to `greatest_entries`
pub record HaveOneForEachSet (bounds : List ℕ) (n : ℕ) : Type 0 where
  pub some : 1 ≤ n
  pub few : n ≤ greatest_entries
  pub sets : length bounds ≡ 2 ^ n

-- A plan of n entries may be asked for. There is a bound for each set of n entries, and the budget is at most 2^59
pub record MayPlan (bounds : List ℕ) (n budget : ℕ) : Type 0 where
  pub sets : HaveOneForEachSet bounds n
  pub within : budget ≤ greatest_budget
