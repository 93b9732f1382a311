use Rattle.std.proofs.Common.{◌∙◌, arith}
use Rattle.std.specs.List.{flat_map}
use Rattle.schema_grammar.specs.declared.tree.Element.{Element}
use Rattle.schema_grammar.specs.declared.tree.TableNode.{TableNode}
use Rattle.schema_types.specs.Refusals.{numbers_above, element_lengths}
use Rattle.schema_types.proofs.Above.{none_at, text_lengths_above}
use Rattle.schema_types.proofs.scope.Scope.schema.Goals as goal

pub table-requires-clause-within : goal.table-requires-clause-within
table-requires-clause-within c =
    none_at (λ (table : TableNode). flat_map (λ (element : Element). numbers_above 1000000 (element_lengths c.args.self.now.text.now element)) table.elements) c.args.self.now.tables.now c.tables.i c.table-item.result
    (text_lengths_above c.args.self.now.text.now 1000000 c.args.self.now.tables.now ∙ c.requires.within) (omega arith) c.table-item.is
