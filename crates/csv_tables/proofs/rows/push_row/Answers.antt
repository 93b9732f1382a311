use Rattle.std.proofs.Common.{◌<◌, length, arith}
use Rattle.csv_tables.proofs.ColumnFacts.{row_begun-more}
use Rattle.csv_tables.proofs.rows.push_row.Goals as goal

pub columns-preserved : goal.columns-preserved
columns-preserved c =
    let within : c.columns.at < length c.args.columns.now.items = omega (arith, c.columns-test.true, c.requires) in
    row_begun-more c.args.columns.now.items c.columns.columns.items c.args.cells.now c.columns.at c.index_mut.result.now c.push.new.self
    within c.columns-test.true c.columns.invariant c.index_mut.ensures.value c.in_ok-push.ensures.ok
