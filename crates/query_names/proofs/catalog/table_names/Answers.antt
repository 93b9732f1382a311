use Rattle.query_names.proofs.NameFacts.{one_more_name}
use Rattle.query_names.proofs.catalog.table_names.Goals as goal

pub all-preserved : goal.all-preserved
all-preserved c =
    one_more_name (λ table. table.name) c.args.schema.now.tables c.as_slice-table-items.ensures c.all-test.true c.table-item.is c.as_str.ensures c.all.invariant c.in_ok-push.ensures
