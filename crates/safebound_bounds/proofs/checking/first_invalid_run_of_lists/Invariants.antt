use Rattle.std.proofs.Common.{◌<◌, ℕ}
use Rattle.safebound_bounds.specs.Arguments.{AreRunsValidAt}
use Rattle.safebound_bounds.proofs.checking.first_invalid_run_of_lists.Given as goal

abbrev pub invariant-loop-list : goal.invariant-loop-list
invariant-loop-list l = (i : ℕ) → i < l.list-index → AreRunsValidAt l.lists l.runs i
