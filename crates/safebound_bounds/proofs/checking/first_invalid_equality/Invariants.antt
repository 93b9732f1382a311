use Rattle.std.proofs.Common.{◌<◌, ℕ}
use Rattle.safebound_bounds.specs.Arguments.{IsEqualityValid, equality_at}
use Rattle.safebound_bounds.proofs.checking.first_invalid_equality.Given as goal

abbrev pub invariant-loop-place : goal.invariant-loop-place
invariant-loop-place l = (i : ℕ) → i < l.place → IsEqualityValid l.entries (equality_at l.equalities i)
