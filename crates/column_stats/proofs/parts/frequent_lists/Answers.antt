use Rattle.std.proofs.Common.{◌∙◌}
use Rattle.column_stats.proofs.FrequentLists.{all_lists}
use Rattle.column_stats.proofs.parts.frequent_lists.Goals as goal

pub returns : goal.returns
returns c =
    c.loop-value.invariant
    ∙ all_lists c.args.accuracy c.args.column.now.cells c.args.joined.now c.as_slice-value-items.result.now c.loop-value.value-index c.requires.joined
    c.loop-value-test.false (c.as_slice-value-items.ensures ∙ c.in_ok-values.ensures)
