use Rattle.query_names.proofs.NameFacts.{one_more_name}
use Rattle.query_names.proofs.catalog.TableByName.new.Goals as goal

pub all-preserved : goal.all-preserved
all-preserved c =
    one_more_name (λ column. column.name) c.args.table.now.columns c.as_slice-column-items.ensures c.all-test.true c.column-item.is c.as_str.ensures c.all.invariant c.in_ok-push.ensures
