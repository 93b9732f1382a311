use Rattle.std.proofs.Common.{length}
use Rattle.piece_math.specs.PiecePlaces.{rest_from}
use Rattle.piece_math.proofs.Grouping.{GroupedSoFar}
use Rattle.piece_math.proofs.blocks.grouped.Given as goal

abbrev pub invariant-loop-at : goal.invariant-loop-at
invariant-loop-at l = GroupedSoFar l.blocks l.rows l.at l.row l.list

abbrev pub decreases-loop-at : goal.decreases-loop-at
decreases-loop-at l = length (rest_from l.blocks l.at)
