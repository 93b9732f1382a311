-- Plans for examples.
use Rattle.std.specs.Prelude.{ℕ, List}
use Rattle.plans.specs.declared.left_deep.Plan.{Plan}

abbrev pub plan_of : List ℕ → List ℕ → List ℕ → Plan
plan_of order scans levels = record { order = order; scans = scans; levels = levels }
