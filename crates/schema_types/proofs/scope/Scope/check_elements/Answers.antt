use Rattle.std.proofs.Common.{arith}
use Rattle.std.proofs.lemmas.Grind.{common_steps}
use Rattle.std.proofs.lemmas.Result.{err_from_is_err_and}
use Rattle.std.proofs.lemmas.List.Folds.{list_any_more}
use Rattle.schema_types.specs.Offences.{element_offences}
use Rattle.schema_types.proofs.Columns.{taken_more}
use Rattle.schema_types.proofs.EarlierChecks.{check_first, check_more}
use Rattle.schema_types.proofs.scope.Scope.check_elements.Goals as goal

pub returns-in_err-check_element : goal.returns-in_err-check_element
returns-in_err-check_element c =
    let p = err_from_is_err_and c.from_residual.result c.from_residual.ensures.1 in
    rw (p.1, p.2) (check_first (element_offences c.args.self.now.text.now c.args.self.now.tables.now c.args.declared.now) c.args.elements.now c.elements.element-index c.element-item.result c.in_err-check_element.field-0.0
    (omega arith) c.element-item.is c.elements.invariant.clean
    (c.in_err-check_element.ensures.offence _ c.elements.invariant.keyed c.elements.invariant.taken))

pub elements-preserved : goal.elements-preserved
elements-preserved c = record {
  keyed = grind (arith, common_steps, list_any_more);
  taken = taken_more c.args.self.now.text.now c.args.elements.now c.elements.element-index c.element-item.result c.elements.taken c.check_element.new.taken
      (omega arith) c.element-item.is c.elements.invariant.taken c.in_ok-check_element.ensures.added;
  clean = check_more (element_offences c.args.self.now.text.now c.args.self.now.tables.now c.args.declared.now) c.args.elements.now c.elements.element-index c.element-item.result
      (omega arith) c.element-item.is c.elements.invariant.clean
      (c.in_ok-check_element.ensures.offence _ c.elements.invariant.keyed c.elements.invariant.taken);
}
