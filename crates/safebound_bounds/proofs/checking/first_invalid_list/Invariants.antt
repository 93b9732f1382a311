use Rattle.std.proofs.Common.{◌<◌, ℕ}
use Rattle.safebound_bounds.specs.Arguments.{IsListValidAt}
use Rattle.safebound_bounds.proofs.checking.first_invalid_list.Given as goal

abbrev pub invariant-loop-place : goal.invariant-loop-place
invariant-loop-place l = (i : ℕ) → i < l.place → IsListValidAt l.entries l.runs l.lists i
