use Rattle.std.proofs.Common.{◌≡◌, ◌++◌, map, take, drop}
use Rattle.safebound_lists.proofs.Writing.{run_of}
use Rattle.safebound_lists.proofs.written.write_runs.Given as goal

abbrev pub invariant-loop-place : goal.invariant-loop-place
invariant-loop-place l = l.into ≡ map run_of (take l.place l.pieces) ++ drop l.place l.initial.into
