use Rattle.std.proofs.Common.{length, ◌-◌, ◌+◌}
use Rattle.piece_math.proofs.Combining.{CombinedSoFar}
use Rattle.piece_math.proofs.by_rank.combine.Given as goal

abbrev pub invariant-loop-places : goal.invariant-loop-places
invariant-loop-places l = CombinedSoFar l.how l.a l.b l.places l.list

abbrev pub decreases-loop-places : goal.decreases-loop-places
decreases-loop-places l = (length l.a - l.places.left.at) + (length l.b - l.places.right.at)
