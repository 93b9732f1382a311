use Rattle.std.proofs.Common.{sym, ◌∙◌}
use Rattle.query_names.proofs.BoundFacts.{resolved_column_operand, resolved_literal_operand}
use Rattle.query_names.proofs.binder.Binder.bind_operand.Goals as goal

pub returns-in-Some-clause-ok : goal.returns-in-Some-clause-ok
returns-in-Some-clause-ok c =
    resolved_column_operand c.args.self.now c.args.visible.now.scope c.in-Column.reference c.in-Some.column c.capped_reference.result c.in-Column.is
    (sym c.in-Some.is ∙ c.in_ok-column-in-Column.ensures) c.capped_reference.ensures c.is_text.ensures c.unwrap_or-first.ensures

pub returns-in_ok-bind_literal-in-Literal-clause-ok : goal.returns-in_ok-bind_literal-in-Literal-clause-ok
returns-in_ok-bind_literal-in-Literal-clause-ok c =
    resolved_literal_operand c.args.self.now c.args.visible.now.scope c.in-Literal.value c.in-Literal.is c.in_ok-bind_literal-in-Literal.ensures
