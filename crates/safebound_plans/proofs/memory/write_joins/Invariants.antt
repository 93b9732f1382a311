use Rattle.std.proofs.Common.{◌≡◌, map, take}
use Rattle.safebound_plans.specs.Memory.{join_of}
use Rattle.safebound_plans.proofs.memory.write_joins.Given as goal

abbrev pub invariant-loop-place : goal.invariant-loop-place
invariant-loop-place l = take l.place l.into ≡ map join_of (take l.place l.nodes)
