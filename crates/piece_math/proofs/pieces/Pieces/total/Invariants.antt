use Rattle.std.proofs.Common.{◌≡◌, sum, take}
use Rattle.degree_sequences.specs.Saturation.{saturated}
use Rattle.piece_math.specs.Expanded.{expanded}
use Rattle.piece_math.proofs.pieces.Pieces.total.Given as goal

abbrev pub invariant-loop-piece : goal.invariant-loop-piece
invariant-loop-piece l = l.total ≡ saturated (sum (expanded (take l.piece-index l.piece-items)))
