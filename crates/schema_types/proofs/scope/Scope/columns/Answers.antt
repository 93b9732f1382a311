use Rattle.std.proofs.Common.{arith}
use Rattle.schema_grammar.specs.declared.tree.Element.{Element}
use Rattle.schema_types.specs.Refusals.{numbers_above, element_lengths}
use Rattle.schema_types.proofs.Above.{none_at}
use Rattle.schema_types.proofs.scope.Scope.columns.Goals as goal

pub add_element_column-requires-clause-within : goal.add_element_column-requires-clause-within
add_element_column-requires-clause-within c =
    none_at (λ (element : Element). numbers_above 1000000 (element_lengths c.args.self.now.text.now element)) c.args.elements.now c.elements.element-index c.element-item.result
    c.requires.within (omega arith) c.element-item.is
