use Rattle.std.proofs.Common.{length, ◌-◌, ◌+◌}
use Rattle.piece_math.proofs.RunningMinima.{LesserSoFar}
use Rattle.piece_math.proofs.pieces.Pieces.lesser.Given as goal

abbrev pub invariant-loop-places : goal.invariant-loop-places
invariant-loop-places l = LesserSoFar l.a l.b l.places l.list l.left_sum l.right_sum

abbrev pub decreases-loop-places : goal.decreases-loop-places
decreases-loop-places l = (length l.a - l.places.left.at) + (length l.b - l.places.right.at)
