use Rattle.std.proofs.Common.{[], arith}
use Rattle.std.specs.Option.{unwrap_or}
use Rattle.std.proofs.lemmas.Result.{err_from_is_err_and}
use Rattle.schema_types.specs.Refusals.{nullable_element}
use Rattle.schema_types.proofs.Flat.{nullable_first, flat_more}
use Rattle.schema_types.proofs.scope.Scope.check_elements_null.Goals as goal

pub returns-in_err-check_element_null : goal.returns-in_err-check_element_null
returns-in_err-check_element_null c =
    let p = err_from_is_err_and c.from_residual.result c.from_residual.ensures.1 in
    rw (p.1, p.2) (nullable_first (nullable_element c.args.self.now.text.now (unwrap_or c.args.key.now [])) c.args.elements.now c.elements.element-index c.element-item.result c.in_err-check_element_null.field-0.0
    (omega arith) c.element-item.is c.elements.invariant c.in_err-check_element_null.ensures)

pub elements-preserved : goal.elements-preserved
elements-preserved c = flat_more (nullable_element c.args.self.now.text.now (unwrap_or c.args.key.now [])) c.args.elements.now c.elements.element-index c.element-item.result
    (omega arith) c.element-item.is c.elements.invariant c.in_ok-check_element_null.ensures
