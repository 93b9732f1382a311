use Rattle.std.proofs.Common.{arith}
use Rattle.std.proofs.lemmas.Grind.{common_steps}
use Rattle.std.proofs.lemmas.Result.{err_from_is_err_and}
use Rattle.schema_types.specs.Offences.{listed_offences, list_offences}
use Rattle.schema_types.proofs.EarlierChecks.{check_first, check_more}
use Rattle.schema_types.proofs.lists.check_list.Goals as goal

pub returns-in_err-check_listed : goal.returns-in_err-check_listed
unfolding list_offences
returns-in_err-check_listed c =
    let p = err_from_is_err_and c.from_residual.result c.from_residual.ensures.1 in
    rw (p.1, p.2) (check_first (listed_offences c.args.text.now c.args.declared.now) c.args.columns.now c.columns.column-index _ c.in_err-check_listed.field-0.0
    (omega arith) (grind (arith, common_steps)) c.columns.invariant.clean
    (c.in_err-check_listed.ensures.offence _ c.columns.invariant.names))

pub columns-preserved : goal.columns-preserved
columns-preserved c = record {
  names = grind (arith, common_steps);
  clean = check_more (listed_offences c.args.text.now c.args.declared.now) c.args.columns.now c.columns.column-index _
      (omega arith) (grind (arith, common_steps)) c.columns.invariant.clean
      (c.in_ok-check_listed.ensures.offence _ c.columns.invariant.names);
}
