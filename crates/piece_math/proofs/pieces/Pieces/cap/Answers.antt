use Rattle.std.proofs.Common.{◌/◌, ◌%◌, ◌<◌, get_or, arith}
use Rattle.piece_math.proofs.Building.{run_falls, run_fits}
use Rattle.piece_math.proofs.Cutting.{value_positive, quotient_times_divisor, quotient_and_remainder, cut_falls, cut_fits, cut_end, kept_run, cut_run, built_kept, cut_step, cut_done}
use Rattle.piece_math.proofs.pieces.Pieces.cap.Goals as goal

pub nonzero_div-whole : goal.nonzero_div-whole
nonzero_div-whole c = value_positive c.pieces-piece-items.result.now c.loop-piece.piece-index (record { value = 0; count = 0 }) c.pieces-piece-items.ensures.whole c.loop-piece-test.true

pub nonzero_rem-left : goal.nonzero_rem-left
nonzero_rem-left c = value_positive c.pieces-piece-items.result.now c.loop-piece.piece-index (record { value = 0; count = 0 }) c.pieces-piece-items.ensures.whole c.loop-piece-test.true

pub put-requires-clause-descends : goal.put-requires-clause-descends
put-requires-clause-descends c pos some =
    run_falls c.loop-piece.invariant.built (kept_run c.pieces-piece-items.ensures.whole c.loop-piece.invariant (record { value = 0; count = 0 }) c.loop-piece-test.true (c.loop-piece.left / (get_or c.pieces-piece-items.result.now c.loop-piece.piece-index (record { value = 0; count = 0 })).value) (omega (arith, c.if-whole-from.true, c.from.ensures)) (quotient_times_divisor c.loop-piece.left (get_or c.pieces-piece-items.result.now c.loop-piece.piece-index (record { value = 0; count = 0 })).value (c.loop-piece.left / (get_or c.pieces-piece-items.result.now c.loop-piece.piece-index (record { value = 0; count = 0 })).value) (omega arith))) (cut_falls c.pieces-piece-items.ensures.whole c.loop-piece.invariant) some

pub put-requires-clause-room : goal.put-requires-clause-room
put-requires-clause-room c pos some =
    omega (
      arith,
      cut_fits c.pieces-piece-items.ensures.whole c.loop-piece.invariant,
      run_fits c.loop-piece.invariant.built (kept_run c.pieces-piece-items.ensures.whole c.loop-piece.invariant (record { value = 0; count = 0 }) c.loop-piece-test.true (c.loop-piece.left / (get_or c.pieces-piece-items.result.now c.loop-piece.piece-index (record { value = 0; count = 0 })).value) (omega (arith, c.if-whole-from.true, c.from.ensures)) (quotient_times_divisor c.loop-piece.left (get_or c.pieces-piece-items.result.now c.loop-piece.piece-index (record { value = 0; count = 0 })).value (c.loop-piece.left / (get_or c.pieces-piece-items.result.now c.loop-piece.piece-index (record { value = 0; count = 0 })).value) (omega arith))) pos,
    )

pub put-requires-then-whole-from-clause-descends : goal.put-requires-then-whole-from-clause-descends
put-requires-then-whole-from-clause-descends c pos some =
    let above : 0 < (get_or c.pieces-piece-items.result.now c.loop-piece.piece-index (record { value = 0; count = 0 })).value = value_positive c.pieces-piece-items.result.now c.loop-piece.piece-index (record { value = 0; count = 0 }) c.pieces-piece-items.ensures.whole c.loop-piece-test.true in
    run_falls
    (built_kept c.pieces-piece-items.ensures.whole c.loop-piece.invariant (record { value = 0; count = 0 }) c.loop-piece-test.true (c.loop-piece.left / (get_or c.pieces-piece-items.result.now c.loop-piece.piece-index (record { value = 0; count = 0 })).value) (omega (arith, c.if-whole-from.true, c.from.ensures)) (quotient_times_divisor c.loop-piece.left (get_or c.pieces-piece-items.result.now c.loop-piece.piece-index (record { value = 0; count = 0 })).value (c.loop-piece.left / (get_or c.pieces-piece-items.result.now c.loop-piece.piece-index (record { value = 0; count = 0 })).value) (omega arith)) c.in_ok-put.ensures)
    (cut_run c.pieces-piece-items.ensures.whole c.loop-piece.invariant (record { value = 0; count = 0 }) c.loop-piece-test.true (c.loop-piece.left / (get_or c.pieces-piece-items.result.now c.loop-piece.piece-index (record { value = 0; count = 0 })).value) (c.loop-piece.left % (get_or c.pieces-piece-items.result.now c.loop-piece.piece-index (record { value = 0; count = 0 })).value) (omega (arith, c.if-whole-from.true, c.from.ensures)) (quotient_and_remainder c.loop-piece.left (get_or c.pieces-piece-items.result.now c.loop-piece.piece-index (record { value = 0; count = 0 })).value above) (omega arith))
    (cut_falls c.pieces-piece-items.ensures.whole c.loop-piece.invariant) some

pub put-requires-then-whole-from-clause-room : goal.put-requires-then-whole-from-clause-room
put-requires-then-whole-from-clause-room c pos some =
    let above : 0 < (get_or c.pieces-piece-items.result.now c.loop-piece.piece-index (record { value = 0; count = 0 })).value = value_positive c.pieces-piece-items.result.now c.loop-piece.piece-index (record { value = 0; count = 0 }) c.pieces-piece-items.ensures.whole c.loop-piece-test.true in
    omega (
      arith,
      cut_fits c.pieces-piece-items.ensures.whole c.loop-piece.invariant,
      run_fits
          (built_kept c.pieces-piece-items.ensures.whole c.loop-piece.invariant (record { value = 0; count = 0 }) c.loop-piece-test.true (c.loop-piece.left / (get_or c.pieces-piece-items.result.now c.loop-piece.piece-index (record { value = 0; count = 0 })).value) (omega (arith, c.if-whole-from.true, c.from.ensures)) (quotient_times_divisor c.loop-piece.left (get_or c.pieces-piece-items.result.now c.loop-piece.piece-index (record { value = 0; count = 0 })).value (c.loop-piece.left / (get_or c.pieces-piece-items.result.now c.loop-piece.piece-index (record { value = 0; count = 0 })).value) (omega arith)) c.in_ok-put.ensures)
          (cut_run c.pieces-piece-items.ensures.whole c.loop-piece.invariant (record { value = 0; count = 0 }) c.loop-piece-test.true (c.loop-piece.left / (get_or c.pieces-piece-items.result.now c.loop-piece.piece-index (record { value = 0; count = 0 })).value) (c.loop-piece.left % (get_or c.pieces-piece-items.result.now c.loop-piece.piece-index (record { value = 0; count = 0 })).value) (omega (arith, c.if-whole-from.true, c.from.ensures)) (quotient_and_remainder c.loop-piece.left (get_or c.pieces-piece-items.result.now c.loop-piece.piece-index (record { value = 0; count = 0 })).value above) (omega arith))
          pos,
    )

pub returns-then-whole-from-clause-value : goal.returns-then-whole-from-clause-value
returns-then-whole-from-clause-value c =
    let above : 0 < (get_or c.pieces-piece-items.result.now c.loop-piece.piece-index (record { value = 0; count = 0 })).value = value_positive c.pieces-piece-items.result.now c.loop-piece.piece-index (record { value = 0; count = 0 }) c.pieces-piece-items.ensures.whole c.loop-piece-test.true in
    rw c.pieces-piece-items.ensures.stands_for
    (cut_done c.pieces-piece-items.ensures.whole c.loop-piece.invariant (record { value = 0; count = 0 }) c.loop-piece-test.true (c.loop-piece.left / (get_or c.pieces-piece-items.result.now c.loop-piece.piece-index (record { value = 0; count = 0 })).value) (c.loop-piece.left % (get_or c.pieces-piece-items.result.now c.loop-piece.piece-index (record { value = 0; count = 0 })).value) (omega (arith, c.if-whole-from.true, c.from.ensures)) (quotient_and_remainder c.loop-piece.left (get_or c.pieces-piece-items.result.now c.loop-piece.piece-index (record { value = 0; count = 0 })).value above) (omega arith) c.in_ok-put.ensures c.in_ok-put-2.ensures)

pub put-requires-in-loop-piece-clause-descends : goal.put-requires-in-loop-piece-clause-descends
put-requires-in-loop-piece-clause-descends c pos some =
    run_falls c.loop-piece.invariant.built (kept_run c.pieces-piece-items.ensures.whole c.loop-piece.invariant (record { value = 0; count = 0 }) c.loop-piece-test.true (get_or c.pieces-piece-items.result.now c.loop-piece.piece-index (record { value = 0; count = 0 })).count (omega arith) (quotient_times_divisor c.loop-piece.left (get_or c.pieces-piece-items.result.now c.loop-piece.piece-index (record { value = 0; count = 0 })).value (get_or c.pieces-piece-items.result.now c.loop-piece.piece-index (record { value = 0; count = 0 })).count (omega (arith, c.if-whole-from.false, c.from.ensures)))) (cut_falls c.pieces-piece-items.ensures.whole c.loop-piece.invariant) some

pub put-requires-in-loop-piece-clause-room : goal.put-requires-in-loop-piece-clause-room
put-requires-in-loop-piece-clause-room c pos some =
    omega (
      arith,
      cut_fits c.pieces-piece-items.ensures.whole c.loop-piece.invariant,
      run_fits c.loop-piece.invariant.built (kept_run c.pieces-piece-items.ensures.whole c.loop-piece.invariant (record { value = 0; count = 0 }) c.loop-piece-test.true (get_or c.pieces-piece-items.result.now c.loop-piece.piece-index (record { value = 0; count = 0 })).count (omega arith) (quotient_times_divisor c.loop-piece.left (get_or c.pieces-piece-items.result.now c.loop-piece.piece-index (record { value = 0; count = 0 })).value (get_or c.pieces-piece-items.result.now c.loop-piece.piece-index (record { value = 0; count = 0 })).count (omega (arith, c.if-whole-from.false, c.from.ensures)))) pos,
    )

pub loop-piece-preserved : goal.loop-piece-preserved
loop-piece-preserved c =
    rw c.from-in-loop-piece.ensures
    (cut_step c.pieces-piece-items.ensures.whole c.loop-piece.invariant (record { value = 0; count = 0 }) c.loop-piece-test.true (quotient_times_divisor c.loop-piece.left (get_or c.pieces-piece-items.result.now c.loop-piece.piece-index (record { value = 0; count = 0 })).value (get_or c.pieces-piece-items.result.now c.loop-piece.piece-index (record { value = 0; count = 0 })).count (omega (arith, c.if-whole-from.false, c.from.ensures))) c.in_ok-put-3.ensures)

pub returns-clause-value : goal.returns-clause-value
returns-clause-value c = rw c.pieces-piece-items.ensures.stands_for (cut_end c.pieces-piece-items.ensures.whole c.loop-piece.invariant c.loop-piece-test.false)
