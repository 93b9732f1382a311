use Rattle.gathered_stats.proofs.Picking.{row_more}
use Rattle.gathered_stats.proofs.paired_rows.is_each_row.Goals as goal

pub rows-preserved : goal.rows-preserved
rows-preserved c = row_more c.args.rows.now c.rows.at c.rows-test.true c.if-rows-at.false c.rows.invariant
