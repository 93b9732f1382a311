use Rattle.std.proofs.Common.{arith}
use Rattle.std.proofs.lemmas.Grind.{common_steps}
use Rattle.std.proofs.lemmas.Result.{err_from_is_err_and}
use Rattle.schema_types.specs.Offences.{table_offences, offences}
use Rattle.schema_types.proofs.EarlierChecks.{check_first, check_more}
use Rattle.schema_types.proofs.scope.Scope.check_names.Goals as goal

pub returns-in_err-check_table : goal.returns-in_err-check_table
unfolding offences
returns-in_err-check_table c =
    let p = err_from_is_err_and c.from_residual.result c.from_residual.ensures.1 in
    rw (p.1, p.2) (check_first (table_offences c.args.self.now.text.now c.args.self.now.tables.now) c.args.self.now.tables.now c.tables.i c.table-item.result c.in_err-check_table.field-0.0
    (omega arith) c.table-item.is c.tables.invariant.clean
    (c.in_err-check_table.ensures.offence _ c.tables.invariant.taken))

pub tables-preserved : goal.tables-preserved
tables-preserved c = record {
  taken = grind (arith, common_steps);
  clean = check_more (table_offences c.args.self.now.text.now c.args.self.now.tables.now) c.args.self.now.tables.now c.tables.i c.table-item.result
      (omega arith) c.table-item.is c.tables.invariant.clean
      (c.in_ok-check_table.ensures.offence _ c.tables.invariant.taken);
}
