use Rattle.std.proofs.Common.{arith}
use Rattle.safebound_lists.proofs.Writing.{room_after_all_mapped, room_before_writing, room_with_one_more_mapped}
use Rattle.safebound_bounds.specs.Meaning.{in_64_bits}
use Rattle.safebound_bounds.proofs.bounding.write_bounds.Goals as goal

pub loop-set-init : goal.loop-set-init
loop-set-init c = room_before_writing c.args.into.now

pub loop-set-preserved : goal.loop-set-preserved
loop-set-preserved c =
    room_with_one_more_mapped in_64_bits c.args.bounds.now c.args.into.now c.loop-set.into c.loop-set.set c.in_64_bits.result 0 0 c.loop-set.invariant c.loop-set-test.true
    (omega (arith, c.loop-set-test.true, c.requires)) c.in_64_bits.ensures

pub returns : goal.returns
returns c = room_after_all_mapped in_64_bits c.args.bounds.now c.args.into.now c.loop-set.into c.loop-set.set c.loop-set.invariant (omega arith)
