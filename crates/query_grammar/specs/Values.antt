-- The value of a text from the values of its parts, for each rule of the grammar. A comment lists the parts in the order of the text.
use Rattle.std.specs.Prelude.{Bool, true, false, Option, Some, None, List, [], ◌∷◌}
use Rattle.ll_grammars.specs.declared.lexeme.Lexeme.{Lexeme}
use Rattle.query_grammar.specs.declared.tree.ColumnNode.{ColumnNode}
use Rattle.query_grammar.specs.declared.tree.LiteralNode.{LiteralNode}
use Rattle.query_grammar.specs.declared.tree.LiteralNode.TheVariants as literal
use Rattle.query_grammar.specs.declared.tree.OperandNode.{OperandNode}
use Rattle.query_grammar.specs.declared.tree.OperandNode.TheVariants as operand
use Rattle.query_grammar.specs.declared.tree.Op.{Op}
use Rattle.query_grammar.specs.declared.tree.TestNode.{TestNode}
use Rattle.query_grammar.specs.declared.tree.TestNode.TheVariants as test
use Rattle.query_grammar.specs.declared.tree.CondNode.{CondNode}
use Rattle.query_grammar.specs.declared.tree.CondNode.TheVariants as cond
use Rattle.query_grammar.specs.declared.tree.SourceNode.{SourceNode}
use Rattle.query_grammar.specs.declared.tree.JoinedNode.{JoinedNode}
use Rattle.query_grammar.specs.declared.tree.FromItemNode.{FromItemNode}
use Rattle.query_grammar.specs.declared.tree.OutNode.{OutNode}
use Rattle.query_grammar.specs.declared.tree.OutNode.TheVariants as out
use Rattle.query_grammar.specs.declared.tree.OutsNode.{OutsNode}
use Rattle.query_grammar.specs.declared.tree.OutsNode.TheVariants as outs
use Rattle.query_grammar.specs.declared.tree.QueryNode.{QueryNode}

-- whether an optional word is written
abbrev pub is_written : Option Lexeme → Bool
is_written None = false
is_written (Some word) = true

-- a fixed value, whichever token spells the word
abbrev pub constant : {A : Type 0} → A → Lexeme → A
constant value word = value

-- ---- columns, literals and operands

-- the first of two names is the table's
abbrev pub column : Lexeme × Option Lexeme → ColumnNode
column (name, None) = record { table = None; column = name }
column (table, Some name) = record { table = Some table; column = name }

abbrev pub number : Option Lexeme × Lexeme → LiteralNode
number parts = literal.Number parts.0 parts.1

abbrev pub text : Lexeme → LiteralNode
text token = literal.Text token

abbrev pub of_column : ColumnNode → OperandNode
of_column c = operand.Column c

abbrev pub of_literal : LiteralNode → OperandNode
of_literal l = operand.Literal l

-- ---- tests

abbrev pub comparison : OperandNode × (Op × OperandNode) → TestNode
comparison parts = test.Compare parts.0 parts.1.0 parts.1.1

-- operand, NOT, BETWEEN, the lower end, AND, the upper end
abbrev pub between : OperandNode × (Bool × (Lexeme × (OperandNode × (Lexeme × OperandNode)))) → TestNode
between parts = test.Between parts.0 parts.1.0 parts.1.1.1.0 parts.1.1.1.1.1

-- operand, NOT, IN, the values
abbrev pub among_values : OperandNode × (Bool × (Lexeme × List LiteralNode)) → TestNode
among_values parts = test.In parts.0 parts.1.0 parts.1.1.1

-- ---- conditions

abbrev pub tested : TestNode → CondNode
tested t = cond.Test t

abbrev pub negate : Bool × CondNode → CondNode
negate (false, c) = c
negate (true, c) = cond.Not c

-- conditions connected by AND, and in `any_of` by OR. A single condition stays as it is
abbrev pub all_of : List CondNode → CondNode
all_of (c ∷ []) = c
all_of [] = cond.And []
all_of (c ∷ d ∷ cs) = cond.And (c ∷ d ∷ cs)

abbrev pub any_of : List CondNode → CondNode
any_of (c ∷ []) = c
any_of [] = cond.Or []
any_of (c ∷ d ∷ cs) = cond.Or (c ∷ d ∷ cs)

-- ---- sources and outputs

abbrev pub source : Lexeme × Option Lexeme → SourceNode
source parts = record { table = parts.0; alias = parts.1 }

-- INNER, JOIN, the source, ON, the condition
abbrev pub join : Option Lexeme × (Lexeme × (SourceNode × (Lexeme × CondNode))) → JoinedNode
join parts = record { source = parts.1.1.0; on = parts.1.1.1.1 }

abbrev pub part : SourceNode × List JoinedNode → FromItemNode
part parts = record { first = parts.0; joins = parts.1 }

-- the alias, the dot, the star
abbrev pub all_columns : Lexeme × (Lexeme × Lexeme) → OutNode
all_columns parts = out.All parts.0

abbrev pub one_column : ColumnNode × Option Lexeme → OutNode
one_column parts = out.Column parts.0 parts.1

abbrev pub everything : Lexeme → OutsNode
everything star = outs.All

abbrev pub these_outs : List OutNode → OutsNode
these_outs list = outs.Listed list

-- SELECT, the outputs, FROM, the parts, WHERE's condition, the semicolon
abbrev pub query : Lexeme × (OutsNode × (Lexeme × (List FromItemNode × (Option CondNode × Option Lexeme)))) → QueryNode
query parts = record { outs = parts.1.0; parts = parts.1.1.1.0; filter = parts.1.1.1.1.0 }
