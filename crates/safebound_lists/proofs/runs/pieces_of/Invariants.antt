use Rattle.std.proofs.Common.{◌≡◌, take}
use Rattle.safebound_lists.specs.Runs.{list_of}
use Rattle.safebound_lists.proofs.runs.pieces_of.Given as goal

abbrev pub invariant-loop-run : goal.invariant-loop-run
invariant-loop-run l = l.pieces ≡ list_of (take l.run-index l.runs)
