use Rattle.key_carriers.proofs.Ascending.{ascend_more}
use Rattle.key_carriers.proofs.key_rows.ascend_from.Goals as goal

pub cells-preserved : goal.cells-preserved
cells-preserved c = ascend_more c.args.first c.cells.at c.args.cells.now c.cells-test.true c.if-cells-at.false c.if-cells-at-2.false c.cells.invariant
