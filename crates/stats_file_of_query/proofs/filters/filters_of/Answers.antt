use Rattle.gathered_stats.specs.Asked.{compared_column}
use Rattle.stats_file_of_query.proofs.Adding.{all_columns, one_column_more}
use Rattle.stats_file_of_query.proofs.filters.filters_of.Goals as goal

pub loop-step-preserved : goal.loop-step-preserved
loop-step-preserved c =
    one_column_more compared_column c.args.steps.now c.loop-step.step-index c.step-item.result c.loop-step.columns c.add_column.new.columns c.compared_column.result
    c.loop-step-test.true c.step-item.is c.loop-step.invariant c.compared_column.ensures c.in_ok-add_column.ensures

pub returns : goal.returns
returns c = all_columns compared_column c.args.steps.now c.loop-step.step-index c.loop-step.columns c.loop-step-test.false c.loop-step.invariant
