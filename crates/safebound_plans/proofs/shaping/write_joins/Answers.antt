use Rattle.std.proofs.Common.{arith}
use Rattle.plans.specs.declared.bushy.Join.{Join}
use Rattle.safebound_lists.proofs.Writing.{room_after_all_mapped, room_before_writing, room_with_one_more_mapped}
use Rattle.safebound_plans.specs.declared.shaping.JoinNode.{JoinNode}
use Rattle.safebound_plans.specs.Trees.{node_of}
use Rattle.safebound_plans.proofs.shaping.write_joins.Goals as goal

-- a look-up past the end of a list gives this join, or this node
abbrev default_join : Join
default_join = record { left = 0; right = 0; bound = 0 }

abbrev default_node : JoinNode
default_node = record { left = 0; right = 0; bound = 0 }

pub loop-place-init : goal.loop-place-init
loop-place-init c = room_before_writing c.args.into.now

pub loop-place-preserved : goal.loop-place-preserved
loop-place-preserved c =
    room_with_one_more_mapped node_of c.args.joins.now c.args.into.now c.loop-place.into c.loop-place.place c.node_of.result default_join default_node c.loop-place.invariant c.loop-place-test.true
    (omega (arith, c.loop-place-test.true, c.requires)) c.node_of.ensures

pub returns : goal.returns
returns c = room_after_all_mapped node_of c.args.joins.now c.args.into.now c.loop-place.into c.loop-place.place c.loop-place.invariant (omega arith)
