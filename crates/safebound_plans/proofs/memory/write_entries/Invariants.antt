use Rattle.std.proofs.Common.{◌≡◌, take}
use Rattle.safebound_plans.specs.Orders.{entries_in}
use Rattle.safebound_plans.proofs.memory.write_entries.Given as goal

abbrev pub invariant-loop-place : goal.invariant-loop-place
invariant-loop-place l = take l.place l.into ≡ entries_in (take l.place l.levels)
