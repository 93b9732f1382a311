use Rattle.std.proofs.Common.{◌≡◌, sum, take}
use Rattle.safebound_lists.specs.Runs.{list_of}
use Rattle.safebound_bounds.proofs.in_sets.total.Given as goal

abbrev pub invariant-loop-run : goal.invariant-loop-run
invariant-loop-run l = l.total ≡ sum (list_of (take l.run-index l.runs))
