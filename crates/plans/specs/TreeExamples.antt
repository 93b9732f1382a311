-- Plans for examples.
use Rattle.std.specs.Prelude.{ℕ, List}
use Rattle.plans.specs.declared.bushy.BushyPlan.{BushyPlan}
use Rattle.plans.specs.declared.bushy.Join.{Join}

abbrev pub join : ℕ → ℕ → ℕ → Join
join left right bound = record { left = left; right = right; bound = bound }

abbrev pub plan_of : List Join → List ℕ → ℕ → BushyPlan
plan_of joins scans cost = record { joins = joins; scans = scans; cost = cost }
