-- Comparisons of a column with a literal, as values of the type `LiteralComparison` of the code.
use Rattle.std.specs.Prelude.{Option, None, Some, option_map}
use Rattle.query_grammar.specs.declared.tree.Op.{Op}
use Rattle.query_types.specs.declared.types.Operand.{Operand}
use Rattle.query_types.specs.declared.types.Operand.TheVariants as operand
use Rattle.filtered_lists.specs.Comparisons.{Comparison, comparison_of}
use Rattle.predicate_bounds.specs.declared.comparing.LiteralComparison.{LiteralComparison}
use Rattle.predicate_bounds.specs.declared.steps.Literal.{Literal}
use Rattle.predicate_bounds.specs.declared.steps.Literal.TheVariants as literal
use Rattle.predicate_bounds.specs.Steps.{literal_of}

-- the literal of an operand, or None if the operand is a column
abbrev pub literal_of_operand : Operand → Option Literal
literal_of_operand (operand.Column column) = None
literal_of_operand (operand.Int number) = Some (literal.Int number)
literal_of_operand (operand.Text text) = Some (literal.Text text)

abbrev pub as_literal_comparison : Comparison → LiteralComparison
as_literal_comparison c = record { op = c.op; column = c.column; literal = literal_of c.literal }

-- the comparison of a column with a literal on either side, or None for any other comparison
abbrev pub comparison_with_literal : Op → Operand → Operand → Option LiteralComparison
comparison_with_literal op left right = option_map as_literal_comparison (comparison_of op left right)
