use Rattle.std.proofs.Common.{arith}
use Rattle.std.proofs.lemmas.Result.{err_from_is_err_and}
use Rattle.schema_types.specs.Refusals.{nullable_in, nullable_offsets}
use Rattle.schema_types.proofs.Flat.{nullable_first, flat_more}
use Rattle.schema_types.proofs.scope.Scope.check_nullability.Goals as goal

pub returns-in_err-check_table_null : goal.returns-in_err-check_table_null
unfolding nullable_offsets
returns-in_err-check_table_null c =
    let p = err_from_is_err_and c.from_residual.result c.from_residual.ensures.1 in
    rw (p.1, p.2) (nullable_first (nullable_in c.args.self.now.text.now) c.args.self.now.tables.now c.tables.i c.table-item.result c.in_err-check_table_null.field-0.0
    (omega arith) c.table-item.is c.tables.invariant c.in_err-check_table_null.ensures)

pub tables-preserved : goal.tables-preserved
tables-preserved c = flat_more (nullable_in c.args.self.now.text.now) c.args.self.now.tables.now c.tables.i c.table-item.result
    (omega arith) c.table-item.is c.tables.invariant c.in_ok-check_table_null.ensures
