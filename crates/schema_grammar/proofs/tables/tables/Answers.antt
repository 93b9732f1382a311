use Rattle.std.proofs.Common.{◌<◌, Bool, length, subst, arith}
use Rattle.std.proofs.lemmas.Result.{err_from_is_err_and}
use Rattle.schema_grammar.specs.Readers.{Follows}
use Rattle.schema_grammar.proofs.TableLoop.{tables_keep, tables_stop, tables_end, table_shorter}
use Rattle.schema_grammar.proofs.tables.tables.Goals as goal

pub returns-in_err-table : goal.returns-in_err-table
returns-in_err-table c =
    let f = subst (λ (b : Bool). Follows b c.others.reader c.another_table_follows.new.reader) c.others-test.true c.another_table_follows.ensures in
    let p = err_from_is_err_and c.from_residual-in_err-table.result c.from_residual-in_err-table.ensures.1 in
    rw (p.1, p.2) (tables_stop _ c.others.tables c.others.reader c.another_table_follows.new.reader _ _ f c.in_err-table.ensures c.others.invariant)

pub others-smaller : goal.others-smaller
others-smaller c =
    let f = subst (λ (b : Bool). Follows b c.others.reader c.another_table_follows.new.reader) c.others-test.true c.another_table_follows.ensures in
    let one : length c.table-in-others.new.reader < length c.another_table_follows.new.reader = table_shorter c.another_table_follows.new.reader _ c.table-in-others.new.reader c.in_ok-table.ensures in
    let two : length c.another_table_follows.new.reader < length c.others.reader = f.1 in
    omega arith

pub others-preserved : goal.others-preserved
others-preserved c =
    let f = subst (λ (b : Bool). Follows b c.others.reader c.another_table_follows.new.reader) c.others-test.true c.another_table_follows.ensures in
    tables_keep c.others.tables _ c.others.reader c.another_table_follows.new.reader _ c.table-in-others.new.reader _ f c.in_ok-table.ensures c.in_ok-push-2.ensures.ok c.others.invariant

pub returns : goal.returns
returns c =
    let f = subst (λ (b : Bool). Follows b c.others.reader c.another_table_follows.new.reader) c.others-test.false c.another_table_follows.ensures in
    tables_end c.others.tables c.others.reader c.another_table_follows.new.reader _ f c.others.invariant
