use Rattle.std.proofs.Common.{◌≡◌, ℕ, ◌<◌, get_or}
use Rattle.piece_math.specs.declared.pieces.Piece.{Piece}
use Rattle.stats_reading.proofs.compare.same_pieces.Given as goal

abbrev pub invariant-loop-i : goal.invariant-loop-i
invariant-loop-i l = (k : ℕ) (d : Piece) → k < l.i → get_or l.a k d ≡ get_or l.b k d
