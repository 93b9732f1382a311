use Rattle.std.proofs.Common.{arith}
use Rattle.piece_math.proofs.PiecePlaces.{IsPiecePlace-next, place_fits}
use Rattle.piece_math.proofs.walk.place_after.Goals as goal

pub overflow_add-used : goal.overflow_add-used
overflow_add-used c =
    omega (arith, c.requires.pieces.fits, place_fits c.args.pieces.now c.args.place.at c.args.place.used c.args.count c.if-place-pieces.false c.requires.place.inside c.requires.count)

pub returns-else-used-pieces-clause-place : goal.returns-else-used-pieces-clause-place
returns-else-used-pieces-clause-place c = IsPiecePlace-next c.args.pieces.now c.args.place.at c.requires.pieces c.if-place-pieces.false
