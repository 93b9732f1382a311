use Rattle.std.proofs.Common.{ℕ, ◌<◌}
use Rattle.safebound_plans.specs.Memory.{IsLevelValidAt}
use Rattle.safebound_plans.proofs.memory.first_invalid_level.Given as goal

abbrev pub invariant-loop-place : goal.invariant-loop-place
invariant-loop-place l = (i : ℕ) → i < l.place → IsLevelValidAt l.entries l.levels i
