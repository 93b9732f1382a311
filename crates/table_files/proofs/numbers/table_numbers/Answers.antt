use Rattle.table_files.proofs.IndexFacts.{tables_more}
use Rattle.table_files.proofs.numbers.table_numbers.Goals as goal

pub entries-preserved : goal.entries-preserved
entries-preserved c =
    tables_more c.args.from.now c.entries.source-index c.source-item.result c.entries.numbers c.append_if_new.new.numbers c.entries-test.true c.source-item.is c.entries.invariant
    c.in_ok-append_if_new.ensures
