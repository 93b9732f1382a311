use Rattle.std.proofs.Common.{◌≡◌, take}
use Rattle.safebound_plans.specs.Orders.{bounds_in}
use Rattle.safebound_plans.proofs.memory.write_bounds.Given as goal

abbrev pub invariant-loop-place : goal.invariant-loop-place
invariant-loop-place l = take l.place l.into ≡ bounds_in (take l.place l.levels)
