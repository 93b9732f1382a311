use Rattle.piece_math.proofs.Combining.{combine_start, combine_falls, combine_fits, combine_step, combine_end}
use Rattle.piece_math.proofs.by_rank.combine.Goals as goal

pub loop-places-init : goal.loop-places-init
loop-places-init c = rw c.in_ok-list.ensures (combine_start c.args.how c.pieces-a.result.now c.pieces-b.result.now c.pieces-a.ensures.whole c.pieces-b.ensures.whole)

pub put-requires-clause-descends : goal.put-requires-clause-descends
put-requires-clause-descends c pos some =
    combine_falls c.pieces-a.ensures.whole c.pieces-b.ensures.whole c.loop-places.invariant c.next_stretch-stretch.ensures c.of.ensures some

pub put-requires-clause-room : goal.put-requires-clause-room
put-requires-clause-room c pos some = combine_fits c.pieces-a.ensures.whole c.pieces-b.ensures.whole c.loop-places.invariant c.next_stretch-stretch.ensures c.of.ensures pos

pub loop-places-preserved : goal.loop-places-preserved
loop-places-preserved c =
    combine_step c.pieces-a.ensures.whole c.pieces-b.ensures.whole c.loop-places.invariant c.next_stretch-stretch.ensures c.of.ensures c.in_ok-put.ensures

pub returns-clause-value : goal.returns-clause-value
returns-clause-value c =
    rw (c.pieces-a.ensures.stands_for, c.pieces-b.ensures.stands_for)
    (combine_end c.args.how c.pieces-a.result.now c.pieces-b.result.now c.loop-places.places c.loop-places.list c.loop-places.invariant c.if-places-a.false c.if-places-b.false)
