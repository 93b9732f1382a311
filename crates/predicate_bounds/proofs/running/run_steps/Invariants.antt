use Rattle.predicate_bounds.proofs.Stacks.{StepsTakenSoFar}
use Rattle.predicate_bounds.proofs.running.run_steps.Given as goal

abbrev pub invariant-loop-i : goal.invariant-loop-i
invariant-loop-i l = StepsTakenSoFar l.steps l.i l.stack
