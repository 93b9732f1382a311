use Rattle.std.proofs.Common.{length, ◌-◌, ◌+◌}
use Rattle.piece_math.proofs.Spreading.{SpreadSoFar}
use Rattle.piece_math.proofs.weights.spread.Given as goal

abbrev pub invariant-loop-places : goal.invariant-loop-places
invariant-loop-places l = SpreadSoFar l.column l.class l.places l.list

abbrev pub decreases-loop-places : goal.decreases-loop-places
decreases-loop-places l = (length l.column - l.places.left.at) + (length l.class - l.places.right.at)
