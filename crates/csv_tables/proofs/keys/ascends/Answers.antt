use Rattle.csv_tables.proofs.AscendFacts.{ascends_more}
use Rattle.csv_tables.proofs.keys.ascends.Goals as goal

pub cells-preserved : goal.cells-preserved
cells-preserved c = ascends_more c.args.cells.now c.cells.at c.cells.auto.at c.if-cells-at.false c.cells.invariant
