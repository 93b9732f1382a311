use Rattle.std.proofs.Common.{length, refl, arith}
use Rattle.std.proofs.lemmas.Grind.{one_shifted}
use Rattle.std.proofs.lemmas.Result.{err_from_is_err_and}
use Rattle.safebound_bounds.proofs.bounding.check_room.Goals as goal

pub returns-in_err-check_values-clause-refused : goal.returns-in_err-check_values-clause-refused
returns-in_err-check_values-clause-refused c =
    let p = err_from_is_err_and c.from_residual.result c.from_residual.ensures.1 in
    rw (p.1, p.2) (c.in_err-check_values.ensures.wrong c.args.room)

pub returns-clause-room : goal.returns-clause-room
returns-clause-room c =
    omega (arith, (one_shifted (length c.args.rows.now) 18446744073709551615 refl (omega (arith, c.in_ok-check_values.ensures.valid.rows_are_valid.few))).0, c.if-room-sets.false)
