use Rattle.std.proofs.Common.{◌*◌, sum, ap, subst, arith}
use Rattle.piece_math.specs.Children.{lists_of}
use Rattle.piece_math.specs.Expanded.{expanded, IsAppended}
use Rattle.piece_math.proofs.Expansion.{positive-expanded}
use Rattle.piece_math.proofs.Building.{run_falls, run_fits}
use Rattle.piece_math.proofs.Spreading.{spread_start, spread_falls, spread_short, spread_end, rows_fit, spread_run, spread_step, spread-row_weights, runs_after-spread}
use Rattle.piece_math.proofs.weights.spread.Goals as goal

pub loop-places-init : goal.loop-places-init
loop-places-init c = rw c.in_ok-list.ensures (spread_start c.pieces-column.result.now c.pieces-class.result.now c.pieces-column.ensures.whole c.pieces-class.ensures.whole)

pub overflow_mul-rows : goal.overflow_mul-rows
overflow_mul-rows c = rw c.from.ensures (omega (arith, rows_fit c.pieces-column.ensures.whole c.pieces-class.ensures.whole c.loop-places.invariant c.next_stretch-stretch.ensures, ap sum c.pieces-column.ensures.stands_for, c.requires))

pub overflow_cast-rows : goal.overflow_cast-rows
overflow_cast-rows c = rw c.from.ensures (omega (arith, rows_fit c.pieces-column.ensures.whole c.pieces-class.ensures.whole c.loop-places.invariant c.next_stretch-stretch.ensures, ap sum c.pieces-column.ensures.stands_for, c.requires))

pub put-requires-clause-descends : goal.put-requires-clause-descends
put-requires-clause-descends c = rw c.from.ensures (λ pos some. run_falls c.loop-places.invariant.built (spread_run c.pieces-column.ensures.whole c.pieces-class.ensures.whole c.loop-places.invariant c.next_stretch-stretch.ensures) (spread_falls c.pieces-column.ensures.whole c.pieces-class.ensures.whole c.loop-places.invariant) some)

pub put-requires-clause-room : goal.put-requires-clause-room
put-requires-clause-room c =
    rw c.from.ensures (λ pos some.
    omega (arith, run_fits c.loop-places.invariant.built (spread_run c.pieces-column.ensures.whole c.pieces-class.ensures.whole c.loop-places.invariant c.next_stretch-stretch.ensures) pos, spread_short c.pieces-column.ensures.whole c.pieces-class.ensures.whole c.loop-places.invariant, ap sum c.pieces-column.ensures.stands_for, c.requires))

pub loop-places-preserved : goal.loop-places-preserved
loop-places-preserved c =
    spread_step c.pieces-column.ensures.whole c.pieces-class.ensures.whole c.loop-places.invariant c.next_stretch-stretch.ensures
    (subst (λ n. IsAppended c.loop-places.list c.put.new.self c.next_stretch-stretch.result.right (c.next_stretch-stretch.result.left * n)) c.from.ensures c.in_ok-put.ensures)

pub returns-clause-value : goal.returns-clause-value
returns-clause-value c =
    rw (← spread-row_weights (lists_of c.args.child.now), c.pieces-column.ensures.stands_for, c.pieces-class.ensures.stands_for) (spread_end c.pieces-column.ensures.whole c.pieces-class.ensures.whole c.loop-places.invariant c.if-places-column.false)

pub returns-clause-few_pieces : goal.returns-clause-few_pieces
returns-clause-few_pieces c =
    rw (c.pieces-class.ensures.stands_for, spread_end c.pieces-column.ensures.whole c.pieces-class.ensures.whole c.loop-places.invariant c.if-places-column.false)
    (runs_after-spread 0 (expanded c.pieces-column.result.now) (expanded c.pieces-class.result.now) (positive-expanded c.pieces-class.result.now c.pieces-class.ensures.whole.descends))
