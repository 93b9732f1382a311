use Rattle.std.proofs.Common.{ℕ, ◌<◌}
use Rattle.safebound_plans.specs.Memory.{IsJoinValidAt}
use Rattle.safebound_plans.proofs.memory.first_invalid_join.Given as goal

abbrev pub invariant-loop-place : goal.invariant-loop-place
invariant-loop-place l = (i : ℕ) → i < l.place → IsJoinValidAt l.entries l.joins i
