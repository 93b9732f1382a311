use Rattle.gathered_stats.specs.Filters.{HasFilterFor}
use Rattle.gathered_stats.proofs.Serving.{all_items, serve_all}
use Rattle.gathered_stats.proofs.filters.filters_of.Goals as goal

pub loop-step-preserved : goal.loop-step-preserved
loop-step-preserved c = (
  c.in_ok-add_filter.ensures.filters,
  serve_all c.loop-step.filters c.add_filter.new.filters c.args.steps.now c.loop-step.step-index c.step-item.result c.loop-step-test.true c.step-item.is
      c.in_ok-add_filter.ensures.kept c.in_ok-add_filter.ensures.has_column c.loop-step.invariant.1,
)

pub returns-clause-has_column : goal.returns-clause-has_column
returns-clause-has_column c = all_items (HasFilterFor c.loop-step.filters) c.args.steps.now c.loop-step.step-index c.loop-step-test.false c.loop-step.invariant.1
