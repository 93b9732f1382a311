use Rattle.std.proofs.Common.{sum, ap, arith}
use Rattle.piece_math.proofs.Building.{run_falls, run_fits}
use Rattle.piece_math.proofs.RunningMinima.{lesser_start, lesser_fits, lesser_falls, lesser_end, left_fits, right_fits, before_run, between_run, after_run, built_before, built_between, lesser_step}
use Rattle.piece_math.proofs.pieces.Pieces.lesser.Goals as goal

pub loop-places-init : goal.loop-places-init
loop-places-init c = rw c.empty-list.ensures (lesser_start c.pieces-a.result.now c.pieces-b.result.now c.pieces-a.ensures.whole c.pieces-b.ensures.whole)

pub put-requires-clause-descends : goal.put-requires-clause-descends
put-requires-clause-descends c pos some =
    run_falls c.loop-places.invariant.built
    (before_run c.pieces-a.ensures.whole c.pieces-b.ensures.whole c.loop-places.invariant c.next_stretch-stretch.ensures c.lower_line-lower.ensures)
    (lesser_falls c.pieces-a.ensures.whole c.pieces-b.ensures.whole) some

pub put-requires-clause-room : goal.put-requires-clause-room
put-requires-clause-room c pos some =
    omega (
      arith,
      lesser_fits c.pieces-a.ensures.whole c.pieces-b.ensures.whole,
      run_fits c.loop-places.invariant.built
          (before_run c.pieces-a.ensures.whole c.pieces-b.ensures.whole c.loop-places.invariant c.next_stretch-stretch.ensures c.lower_line-lower.ensures) pos,
    )

pub put-requires-in-loop-places-clause-descends : goal.put-requires-in-loop-places-clause-descends
put-requires-in-loop-places-clause-descends c pos some =
    run_falls (built_before c.pieces-a.ensures.whole c.pieces-b.ensures.whole c.loop-places.invariant c.next_stretch-stretch.ensures c.lower_line-lower.ensures c.in_ok-put.ensures)
    (between_run c.pieces-a.ensures.whole c.pieces-b.ensures.whole c.loop-places.invariant c.next_stretch-stretch.ensures c.lower_line-lower.ensures)
    (lesser_falls c.pieces-a.ensures.whole c.pieces-b.ensures.whole) some

pub put-requires-in-loop-places-clause-room : goal.put-requires-in-loop-places-clause-room
put-requires-in-loop-places-clause-room c pos some =
    omega (
      arith,
      lesser_fits c.pieces-a.ensures.whole c.pieces-b.ensures.whole,
      run_fits (built_before c.pieces-a.ensures.whole c.pieces-b.ensures.whole c.loop-places.invariant c.next_stretch-stretch.ensures c.lower_line-lower.ensures c.in_ok-put.ensures)
          (between_run c.pieces-a.ensures.whole c.pieces-b.ensures.whole c.loop-places.invariant c.next_stretch-stretch.ensures c.lower_line-lower.ensures) pos,
    )

pub put-requires-in-loop-places-2-clause-descends : goal.put-requires-in-loop-places-2-clause-descends
put-requires-in-loop-places-2-clause-descends c pos some =
    run_falls (built_between c.pieces-a.ensures.whole c.pieces-b.ensures.whole c.loop-places.invariant c.next_stretch-stretch.ensures c.lower_line-lower.ensures c.in_ok-put.ensures c.in_ok-put-2.ensures)
    (after_run c.pieces-a.ensures.whole c.pieces-b.ensures.whole c.loop-places.invariant c.next_stretch-stretch.ensures c.lower_line-lower.ensures)
    (lesser_falls c.pieces-a.ensures.whole c.pieces-b.ensures.whole) some

pub put-requires-in-loop-places-2-clause-room : goal.put-requires-in-loop-places-2-clause-room
put-requires-in-loop-places-2-clause-room c pos some =
    omega (
      arith,
      lesser_fits c.pieces-a.ensures.whole c.pieces-b.ensures.whole,
      run_fits (built_between c.pieces-a.ensures.whole c.pieces-b.ensures.whole c.loop-places.invariant c.next_stretch-stretch.ensures c.lower_line-lower.ensures c.in_ok-put.ensures c.in_ok-put-2.ensures)
          (after_run c.pieces-a.ensures.whole c.pieces-b.ensures.whole c.loop-places.invariant c.next_stretch-stretch.ensures c.lower_line-lower.ensures) pos,
    )

pub overflow_mul-left_sum : goal.overflow_mul-left_sum
overflow_mul-left_sum c =
    rw c.from.ensures (omega (arith, left_fits c.pieces-a.ensures.whole c.pieces-b.ensures.whole c.loop-places.invariant c.next_stretch-stretch.ensures, ap sum c.pieces-a.ensures.stands_for, c.requires.own_total))

pub overflow_add-left_sum : goal.overflow_add-left_sum
overflow_add-left_sum c =
    rw c.from.ensures (omega (arith, left_fits c.pieces-a.ensures.whole c.pieces-b.ensures.whole c.loop-places.invariant c.next_stretch-stretch.ensures, ap sum c.pieces-a.ensures.stands_for, c.requires.own_total))

pub overflow_mul-right_sum : goal.overflow_mul-right_sum
overflow_mul-right_sum c =
    rw c.from-in-loop-places.ensures (omega (arith, right_fits c.pieces-a.ensures.whole c.pieces-b.ensures.whole c.loop-places.invariant c.next_stretch-stretch.ensures, ap sum c.pieces-b.ensures.stands_for, c.requires.other_total))

pub overflow_add-right_sum : goal.overflow_add-right_sum
overflow_add-right_sum c =
    rw c.from-in-loop-places.ensures (omega (arith, right_fits c.pieces-a.ensures.whole c.pieces-b.ensures.whole c.loop-places.invariant c.next_stretch-stretch.ensures, ap sum c.pieces-b.ensures.stands_for, c.requires.other_total))

pub loop-places-preserved : goal.loop-places-preserved
loop-places-preserved c =
    rw (c.from.ensures, c.from-in-loop-places.ensures)
    (lesser_step c.pieces-a.ensures.whole c.pieces-b.ensures.whole c.loop-places.invariant c.next_stretch-stretch.ensures c.lower_line-lower.ensures c.in_ok-put.ensures c.in_ok-put-2.ensures c.in_ok-put-3.ensures)

pub returns-clause-value : goal.returns-clause-value
returns-clause-value c =
    rw (c.pieces-a.ensures.stands_for, c.pieces-b.ensures.stands_for)
    (lesser_end c.pieces-a.ensures.whole c.pieces-b.ensures.whole c.loop-places.places c.loop-places.list c.loop-places.left_sum c.loop-places.right_sum c.loop-places.invariant c.if-places-a.false c.if-places-b.false)
