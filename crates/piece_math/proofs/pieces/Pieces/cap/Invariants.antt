use Rattle.piece_math.proofs.Cutting.{CutSoFar}
use Rattle.piece_math.proofs.pieces.Pieces.cap.Given as goal

abbrev pub invariant-loop-piece : goal.invariant-loop-piece
invariant-loop-piece l = CutSoFar l.piece-items l.n l.piece-index l.left l.list
