use Rattle.gathered_stats.specs.Asked.{AreStepsOf}
use Rattle.gathered_stats.proofs.Entries.{one_column, one_made}
use Rattle.gathered_stats.specs.ShownCells.{shown_cells}
use Rattle.gathered_stats.proofs.gather.gather_columns.Goals as goal

pub loop-column-preserved : goal.loop-column-preserved
loop-column-preserved c = (
  one_column c.args.columns.now c.loop-column.column-index c.loop-column.gathered c.push.new.self c.in_ok-gather_column.field-0 c.loop-column-test.true c.in_ok-gather_column.ensures.column
      c.loop-column.invariant.0 c.in_ok-push.ensures.ok,
  one_made (AreStepsOf c.args.table.now.pool.now (shown_cells c.args.table.now) c.args.table.now.accuracy c.args.steps.now) c.loop-column.gathered c.push.new.self c.in_ok-gather_column.field-0
      c.loop-column.invariant.1 c.in_ok-gather_column.ensures.steps c.in_ok-push.ensures.ok,
)
