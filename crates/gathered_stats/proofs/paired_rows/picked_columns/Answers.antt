use Rattle.gathered_stats.specs.PairedRows.{HasColumnFor}
use Rattle.gathered_stats.proofs.Picking.{serve_more}
use Rattle.gathered_stats.proofs.Serving.{all_items}
use Rattle.gathered_stats.proofs.paired_rows.picked_columns.Goals as goal

pub loop-step-preserved : goal.loop-step-preserved
loop-step-preserved c = (
  c.in_ok-add_picked.ensures.columns,
  serve_more c.loop-step.columns c.add_picked.new.columns c.args.steps.now c.loop-step.step-index c.step-item.result c.loop-step-test.true c.step-item.is
      c.in_ok-add_picked.ensures.kept c.in_ok-add_picked.ensures.has_column c.loop-step.invariant.1,
)

pub returns-clause-has_column : goal.returns-clause-has_column
returns-clause-has_column c = all_items (HasColumnFor c.loop-step.columns) c.args.steps.now c.loop-step.step-index c.loop-step-test.false c.loop-step.invariant.1
