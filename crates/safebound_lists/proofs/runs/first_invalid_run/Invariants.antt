use Rattle.safebound_lists.proofs.Following.{IsTested}
use Rattle.safebound_lists.proofs.runs.first_invalid_run.Given as goal

abbrev pub invariant-loop-place : goal.invariant-loop-place
invariant-loop-place l = IsTested l.runs l.place l.least l.remaining
