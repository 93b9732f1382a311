-- Each token of a query's syntax tree has a property P, and a terminal of the kind that the tree needs there. For example, a name has one of
-- the terminals of names, and the digits of a number have a number's terminal.
use Rattle.std.specs.Prelude.{All, IfSome, ⊤, [], ◌∷◌}
use Rattle.ll_grammars.specs.declared.lexeme.Lexeme.{Lexeme}
use Rattle.ll_grammars.specs.declared.terminal.Terminal.TheVariants as terminal
use Rattle.ll_grammars.specs.Preserving.{IsOneOf}
use Rattle.query_grammar.specs.declared.tree.ColumnNode.{ColumnNode}
use Rattle.query_grammar.specs.declared.tree.LiteralNode.{LiteralNode}
use Rattle.query_grammar.specs.declared.tree.LiteralNode.TheVariants as literal
use Rattle.query_grammar.specs.declared.tree.OperandNode.{OperandNode}
use Rattle.query_grammar.specs.declared.tree.OperandNode.TheVariants as operand
use Rattle.query_grammar.specs.declared.tree.TestNode.{TestNode}
use Rattle.query_grammar.specs.declared.tree.TestNode.TheVariants as test
use Rattle.query_grammar.specs.declared.tree.CondNode.{CondNode, every-CondNode}
use Rattle.query_grammar.specs.declared.tree.CondNode.TheOpen.{CondNode-F}
use Rattle.query_grammar.specs.declared.tree.CondNode.TheOpen as layer
use Rattle.query_grammar.specs.declared.tree.SourceNode.{SourceNode}
use Rattle.query_grammar.specs.declared.tree.JoinedNode.{JoinedNode}
use Rattle.query_grammar.specs.declared.tree.FromItemNode.{FromItemNode}
use Rattle.query_grammar.specs.declared.tree.OutNode.{OutNode}
use Rattle.query_grammar.specs.declared.tree.OutNode.TheVariants as out
use Rattle.query_grammar.specs.declared.tree.OutsNode.{OutsNode}
use Rattle.query_grammar.specs.declared.tree.OutsNode.TheVariants as outs
use Rattle.query_grammar.specs.declared.tree.QueryNode.{QueryNode}
use Rattle.query_grammar.specs.Grammar.{name_terminals, sign_terminals, digit_terminals}

abbrev pub IsNameWith : (Lexeme → Type 0) → Lexeme → Type 0
IsNameWith P token = IsOneOf name_terminals P token

abbrev pub IsColumnWith : (Lexeme → Type 0) → ColumnNode → Type 0
IsColumnWith P c = IfSome c.table (IsNameWith P) × IsNameWith P c.column

abbrev pub IsLiteralWith : (Lexeme → Type 0) → LiteralNode → Type 0
IsLiteralWith P (literal.Number sign digits) = IfSome sign (IsOneOf sign_terminals P) × IsOneOf digit_terminals P digits
IsLiteralWith P (literal.Text text) = IsOneOf (terminal.Text ∷ []) P text

abbrev pub IsOperandWith : (Lexeme → Type 0) → OperandNode → Type 0
IsOperandWith P (operand.Column c) = IsColumnWith P c
IsOperandWith P (operand.Literal l) = IsLiteralWith P l

abbrev pub IsTestWith : (Lexeme → Type 0) → TestNode → Type 0
IsTestWith P (test.Compare left op right) = IsOperandWith P left × IsOperandWith P right
IsTestWith P (test.Between left negated low high) = IsOperandWith P left × IsOperandWith P low × IsOperandWith P high
IsTestWith P (test.In left negated values) = IsOperandWith P left × All (IsLiteralWith P) values

-- one node of a condition, without its members: the tokens of a test have P, and AND, OR and NOT keep no tokens
abbrev pub IsLayerWith : (Lexeme → Type 0) → CondNode-F CondNode → Type 0
IsLayerWith P (layer.And members) = ⊤
IsLayerWith P (layer.Or members) = ⊤
IsLayerWith P (layer.Not inner) = ⊤
IsLayerWith P (layer.Test t) = IsTestWith P t

-- the tokens of all tests in the condition have P
abbrev pub IsCondWith : (Lexeme → Type 0) → CondNode → Type 0
IsCondWith P c = every-CondNode (IsLayerWith P) c

abbrev pub IsSourceWith : (Lexeme → Type 0) → SourceNode → Type 0
IsSourceWith P s = IsNameWith P s.table × IfSome s.alias (IsNameWith P)

abbrev pub IsJoinWith : (Lexeme → Type 0) → JoinedNode → Type 0
IsJoinWith P j = IsSourceWith P j.source × IsCondWith P j.on

abbrev pub IsFromItemWith : (Lexeme → Type 0) → FromItemNode → Type 0
IsFromItemWith P p = IsSourceWith P p.first × All (IsJoinWith P) p.joins

abbrev pub IsOutWith : (Lexeme → Type 0) → OutNode → Type 0
IsOutWith P (out.All alias) = IsNameWith P alias
IsOutWith P (out.Column c name) = IsColumnWith P c × IfSome name (IsNameWith P)

abbrev pub IsOutListWith : (Lexeme → Type 0) → OutsNode → Type 0
IsOutListWith P outs.All = ⊤
IsOutListWith P (outs.Listed list) = All (IsOutWith P) list

-- every token of the query has P
unfoldable pub IsQueryWith : (Lexeme → Type 0) → QueryNode → Type 0
IsQueryWith P q = IsOutListWith P q.outs × All (IsFromItemWith P) q.parts × IfSome q.filter (IsCondWith P)
