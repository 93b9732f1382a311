use Rattle.piece_math.proofs.BlockSums.{BlockSoFar}
use Rattle.piece_math.proofs.blocks.block_from.Given as goal

abbrev pub invariant-loop-left : goal.invariant-loop-left
invariant-loop-left l = BlockSoFar l.weights l.fn.start l.rows l.next l.left l.sum

abbrev pub decreases-loop-left : goal.decreases-loop-left
decreases-loop-left l = l.left
