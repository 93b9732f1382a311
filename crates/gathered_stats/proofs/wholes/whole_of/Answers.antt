use Rattle.std.proofs.lemmas.Option.{IfSome_then}
use Rattle.gathered_stats.proofs.WholeLists.{column_whole}
use Rattle.gathered_stats.proofs.wholes.whole_of.Goals as goal

pub returns-then-gathered-column : goal.returns-then-gathered-column
returns-then-gathered-column c =
    IfSome_then c.whole_among.result c.whole_among.ensures
    (λ list is texts cells accuracy has all. column_whole texts cells accuracy c.args.column c.args.steps.now c.args.own.now.columns c.as_slice-gathered-items.result.now c.loop-gathered.gathered-index
    c.gathered-item.result list.now c.as_slice-gathered-items.ensures c.loop-gathered-test.true c.gathered-item.is c.if-gathered-column.true is has all)
