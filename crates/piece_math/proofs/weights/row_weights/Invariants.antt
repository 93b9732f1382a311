use Rattle.piece_math.proofs.Weighing.{WeightsSoFar}
use Rattle.piece_math.proofs.weights.row_weights.Given as goal

abbrev pub invariant-loop-i : goal.invariant-loop-i
invariant-loop-i l = WeightsSoFar l.children l.rows l.i l.weights
