use Rattle.std.proofs.Common.{length, arith}
use Rattle.std.proofs.lemmas.Result.{err_from_is_err_and}
use Rattle.safebound_bounds.proofs.Bounded.{room_told}
use Rattle.safebound_bounds.proofs.GivenSets.{ok_always, no_memory_is_within_cause, refused_within}
use Rattle.safebound_bounds.proofs.bounding.bounds_within.Goals as goal

pub parts_of-requires : goal.parts_of-requires
parts_of-requires c = λ i low. record {
  left = omega (arith, (c.in_ok-check_room.ensures.valid.equalities_are_valid.each i low).left, c.in_ok-check_room.ensures.valid.rows_are_valid.few);
  right = omega (arith, (c.in_ok-check_room.ensures.valid.equalities_are_valid.each i low).right, c.in_ok-check_room.ensures.valid.rows_are_valid.few);
  two = (c.in_ok-check_room.ensures.valid.equalities_are_valid.each i low).two;
}

pub returns-in_err-check_room-clause-refused : goal.returns-in_err-check_room-clause-refused
returns-in_err-check_room-clause-refused c =
    let p = err_from_is_err_and c.from_residual.result c.from_residual.ensures.1 in
    refused_within c.args.rows.now c.args.equalities.now c.args.lists.now c.args.runs.now c.args.limit (length c.args.into.now) c.from_residual.result (rw (p.1, p.2) c.in_err-check_room.ensures.refused)

pub returns-in_err-check_work-clause-refused : goal.returns-in_err-check_work-clause-refused
returns-in_err-check_work-clause-refused c =
    let p = err_from_is_err_and c.from_residual-in_err-check_work.result c.from_residual-in_err-check_work.ensures.1 in
    rw (p.1, p.2) (c.in_err-check_work.ensures.refused (length c.args.into.now) c.in_ok-check_room.ensures.room)

pub returns-clause-within : goal.returns-clause-within
returns-clause-within c = ok_always _ c.write_all_bounds.result c.in_ok-check_work.ensures.within

pub returns-clause-done : goal.returns-clause-done
returns-clause-done c = c.write_all_bounds.ensures.done

pub returns-clause-refused : goal.returns-clause-refused
returns-clause-refused c = no_memory_is_within_cause c.args.rows.now c.args.equalities.now c.args.lists.now c.args.runs.now c.args.limit (length c.args.into.now) c.write_all_bounds.result c.write_all_bounds.ensures.refused

pub returns-clause-valid : goal.returns-clause-valid
returns-clause-valid c = ok_always _ c.write_all_bounds.result c.in_ok-check_room.ensures.valid

pub returns-clause-never_under : goal.returns-clause-never_under
returns-clause-never_under c = room_told c.args.rows.now c.args.equalities.now c.args.lists.now c.args.runs.now c.in_ok-check_room.ensures.valid c.args.into.now c.write_all_bounds.new.into c.write_all_bounds.result c.write_all_bounds.ensures.done
