-- Comparisons of a column with a literal.
use Rattle.std.specs.Prelude.{ℕ, Option, None, Some}
use Rattle.csv_tables.specs.Values.{Value, Int, Text}
use Rattle.query_grammar.specs.declared.tree.Op.{Op}
use Rattle.query_grammar.specs.declared.tree.Op.TheVariants as op
use Rattle.query_types.specs.declared.types.Operand.{Operand}
use Rattle.query_types.specs.declared.types.Operand.TheVariants as operand

-- the opposite of a comparison, which holds exactly if the comparison doesn't
abbrev pub negated_operator : Op → Op
negated_operator op.Eq = op.Ne
negated_operator op.Ne = op.Eq
negated_operator op.Lt = op.Ge
negated_operator op.Le = op.Gt
negated_operator op.Gt = op.Le
negated_operator op.Ge = op.Lt

-- the same comparison with its sides swapped
abbrev pub mirrored : Op → Op
mirrored op.Eq = op.Eq
mirrored op.Ne = op.Ne
mirrored op.Lt = op.Gt
mirrored op.Le = op.Ge
mirrored op.Gt = op.Lt
mirrored op.Ge = op.Le

-- a column, by its number in its table, compared with a literal on its right
pub record Comparison : Type 0 where
  pub op : Op
  pub column : ℕ
  pub literal : Value

-- if one operand is a column and the other a literal, the comparison with the literal on its right
abbrev pub comparison_of : Op → Operand → Operand → Option Comparison
comparison_of op (operand.Column column) (operand.Int number) =
    Some (record { op = op; column = column.column; literal = Int number })
comparison_of op (operand.Column column) (operand.Text text) =
    Some (record { op = op; column = column.column; literal = Text text })
comparison_of op (operand.Column column) (operand.Column other) = None
comparison_of op (operand.Int number) (operand.Column column) =
    Some (record { op = mirrored op; column = column.column; literal = Int number })
comparison_of op (operand.Int number) (operand.Int other) = None
comparison_of op (operand.Int number) (operand.Text text) = None
comparison_of op (operand.Text text) (operand.Column column) =
    Some (record { op = mirrored op; column = column.column; literal = Text text })
comparison_of op (operand.Text text) (operand.Int number) = None
comparison_of op (operand.Text text) (operand.Text other) = None
