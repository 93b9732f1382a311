use Rattle.std.proofs.Common.{◌<◌, ℕ}
use Rattle.safebound_bounds.specs.Arguments.{IsRowBoundValidAt}
use Rattle.safebound_bounds.proofs.checking.first_invalid_row_bound.Given as goal

abbrev pub invariant-loop-place : goal.invariant-loop-place
invariant-loop-place l = (i : ℕ) → i < l.place → IsRowBoundValidAt l.rows i
