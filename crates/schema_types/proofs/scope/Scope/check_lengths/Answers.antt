use Rattle.std.proofs.Common.{arith}
use Rattle.std.proofs.lemmas.Result.{err_from_is_err_and}
use Rattle.schema_grammar.specs.declared.tree.Element.{Element}
use Rattle.schema_types.specs.declared.errors.LimitKind.TheVariants as limit
use Rattle.schema_types.specs.Refusals.{numbers_above, element_lengths}
use Rattle.schema_types.proofs.Flat.{above_first}
use Rattle.schema_types.proofs.scope.Scope.check_lengths.Goals as goal

pub returns-in_err-check_element_length : goal.returns-in_err-check_element_length
returns-in_err-check_element_length c =
    let p = err_from_is_err_and c.from_residual.result c.from_residual.ensures.1 in
    rw (p.1, p.2) (above_first limit.TextLength (λ (element : Element). numbers_above 1000000 (element_lengths c.args.self.now.text.now element)) c.args.elements.now c.elements.element-index c.element-item.result c.in_err-check_element_length.field-0.0
    (omega arith) c.element-item.is c.elements.invariant c.in_err-check_element_length.ensures)
