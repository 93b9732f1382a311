use Rattle.std.proofs.Common.{arith}
use Rattle.predicate_bounds.proofs.Stacks.{no_steps_taken, take_one_step, small_at}
use Rattle.predicate_bounds.proofs.running.run_steps.Goals as goal

pub loop-i-init : goal.loop-i-init
loop-i-init c = no_steps_taken c.args.steps.now c.new-stack.result c.new-stack.ensures

pub take_step-requires-clause-room : goal.take_step-requires-clause-room
take_step-requires-clause-room c = omega (arith, c.loop-i.invariant.total, c.loop-i-test.true)

pub take_step-requires-clause-small : goal.take_step-requires-clause-small
take_step-requires-clause-small c = small_at c.args.steps.now c.loop-i.i c.index-steps-i.result c.requires c.loop-i-test.true c.index-steps-i.is

pub loop-i-preserved : goal.loop-i-preserved
loop-i-preserved c =
    take_one_step c.args.steps.now c.loop-i.i c.index-steps-i.result c.loop-i.stack c.take_step.new.stack c.loop-i.invariant c.loop-i-test.true c.index-steps-i.is
    c.in_ok-take_step.ensures.lists c.in_ok-take_step.ensures.total
