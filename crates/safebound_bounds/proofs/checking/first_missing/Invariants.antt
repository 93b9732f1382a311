use Rattle.std.proofs.Common.{◌<◌, ℕ}
use Rattle.safebound_bounds.specs.Arguments.{ColumnsHaveLists, equality_at}
use Rattle.safebound_bounds.proofs.checking.first_missing.Given as goal

abbrev pub invariant-loop-place : goal.invariant-loop-place
invariant-loop-place l = (i : ℕ) → i < l.place → ColumnsHaveLists l.lists (equality_at l.equalities i)
