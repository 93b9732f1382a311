use Rattle.std.proofs.Common.{arith}
use Rattle.safebound_bounds.proofs.Totals.{total_is_within_limit, total_with_one_more_run}
use Rattle.safebound_bounds.proofs.in_sets.total.Goals as goal

pub overflow_mul-total : goal.overflow_mul-total
overflow_mul-total c = omega (arith, total_is_within_limit c.args.runs.now c.requires c.loop-run.run-index c.loop-run-test.true)

pub overflow_add-total : goal.overflow_add-total
overflow_add-total c = omega (arith, total_is_within_limit c.args.runs.now c.requires c.loop-run.run-index c.loop-run-test.true, c.loop-run.invariant)

pub loop-run-preserved : goal.loop-run-preserved
loop-run-preserved c = omega (arith, total_with_one_more_run c.args.runs.now c.loop-run.run-index c.loop-run-test.true, c.loop-run.invariant)
