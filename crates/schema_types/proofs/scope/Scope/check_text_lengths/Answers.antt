use Rattle.std.proofs.Common.{◌≡◌, [], arith}
use Rattle.std.specs.List.{flat_map}
use Rattle.std.proofs.lemmas.Grind.{common_steps}
use Rattle.std.proofs.lemmas.Result.{err_from_is_err_and}
use Rattle.schema_grammar.specs.declared.tree.Element.{Element}
use Rattle.schema_grammar.specs.declared.tree.TableNode.{TableNode}
use Rattle.schema_types.specs.declared.errors.LimitKind.TheVariants as limit
use Rattle.schema_types.specs.Refusals.{numbers_above, element_lengths}
use Rattle.schema_types.proofs.Above.{text_lengths_above}
use Rattle.schema_types.proofs.Flat.{above_first}
use Rattle.schema_types.proofs.scope.Scope.check_text_lengths.Goals as goal

pub returns-in_err-check_lengths : goal.returns-in_err-check_lengths
returns-in_err-check_lengths c =
    let p = err_from_is_err_and c.from_residual.result c.from_residual.ensures.1 in
    rw (p.1, p.2, ← text_lengths_above c.args.self.now.text.now 1000000 c.args.self.now.tables.now)
    (above_first limit.TextLength (λ (table : TableNode). flat_map (λ (element : Element). numbers_above 1000000 (element_lengths c.args.self.now.text.now element)) table.elements) c.args.self.now.tables.now c.tables.table-index c.table-item.result c.in_err-check_lengths.field-0.0
    (omega arith) c.table-item.is c.tables.invariant (grind (arith, common_steps)))

pub returns : goal.returns
returns c =
    let all : flat_map (λ (table : TableNode). flat_map (λ (element : Element). numbers_above 1000000 (element_lengths c.args.self.now.text.now element)) table.elements) c.args.self.now.tables.now ≡ [] = grind (arith, common_steps) in
    rw (← text_lengths_above c.args.self.now.text.now 1000000 c.args.self.now.tables.now) all
