-- The grammar of query texts (SQL-92 7.4 to 7.9 and 8.1 to 8.12, as profiled), rule by rule.
use Rattle.std.specs.Prelude.{ℕ, zero, suc, Bool, Option, List, [], ◌∷◌}
use Rattle.ll_grammars.specs.declared.lexeme.Lexeme.{Lexeme}
use Rattle.ll_grammars.specs.declared.terminal.Terminal.{Terminal}
use Rattle.ll_grammars.specs.declared.terminal.Terminal.TheVariants as terminal
use Rattle.ll_grammars.specs.Language.{Language, one, ◌▸◌, mapped, ◌∪◌, maybe, many}
use Rattle.ll_grammars.specs.Rules.{second, word, listed, in_parentheses}
use Rattle.query_grammar.specs.declared.tree.ColumnNode.{ColumnNode}
use Rattle.query_grammar.specs.declared.tree.LiteralNode.{LiteralNode}
use Rattle.query_grammar.specs.declared.tree.OperandNode.{OperandNode}
use Rattle.query_grammar.specs.declared.tree.Op.{Op}
use Rattle.query_grammar.specs.declared.tree.Op.TheVariants as op
use Rattle.query_grammar.specs.declared.tree.TestNode.{TestNode}
use Rattle.query_grammar.specs.declared.tree.CondNode.{CondNode}
use Rattle.query_grammar.specs.declared.tree.SourceNode.{SourceNode}
use Rattle.query_grammar.specs.declared.tree.JoinedNode.{JoinedNode}
use Rattle.query_grammar.specs.declared.tree.FromItemNode.{FromItemNode}
use Rattle.query_grammar.specs.declared.tree.OutNode.{OutNode}
use Rattle.query_grammar.specs.declared.tree.OutsNode.{OutsNode}
use Rattle.query_grammar.specs.declared.tree.QueryNode.{QueryNode}
use Rattle.query_grammar.specs.Values.{is_written, constant, column, number, text, of_column, of_literal, comparison, between, among_values, tested, negate, all_of, any_of, source, join, part, all_columns, one_column, everything, these_outs, query}

-- the terminals of a name. KEY, NO, ACTION and CASCADE are names in a query
abbrev pub name_terminals : List Terminal
name_terminals = terminal.Name ∷ terminal.Key ∷ terminal.No ∷ terminal.Action ∷ terminal.Cascade ∷ []

abbrev pub sign_terminals : List Terminal
sign_terminals = terminal.Plus ∷ terminal.Minus ∷ []

abbrev pub digit_terminals : List Terminal
digit_terminals = terminal.Number ∷ terminal.Zero ∷ []

-- ---- names, columns, literals

abbrev pub Name : Language Lexeme
Name = one name_terminals

-- [ [ AS ] name ]
abbrev pub NewName : Language (Option Lexeme)
NewName = maybe (mapped second (maybe (word terminal.As) ▸ Name))

-- name [ "." name ]
abbrev pub ColumnReference : Language ColumnNode
ColumnReference = mapped column (Name ▸ maybe (mapped second (word terminal.Dot ▸ Name)))

-- [ "+" | "-" ] Number | Text
abbrev pub Literal : Language LiteralNode
Literal = mapped number (maybe (one sign_terminals) ▸ one digit_terminals)
    ∪ mapped text (word terminal.Text)

-- ---- tests

-- colref | literal
abbrev pub Operand : Language OperandNode
Operand = mapped of_column ColumnReference
    ∪ mapped of_literal Literal

-- "=" | "<>" | "<" | "<=" | ">" | ">="
abbrev pub ComparisonOperator : Language Op
ComparisonOperator = mapped (constant op.Eq) (word terminal.Equal)
    ∪ mapped (constant op.Ne) (word terminal.NotEqual)
    ∪ mapped (constant op.Lt) (word terminal.Less)
    ∪ mapped (constant op.Le) (word terminal.LessOrEqual)
    ∪ mapped (constant op.Gt) (word terminal.Greater)
    ∪ mapped (constant op.Ge) (word terminal.GreaterOrEqual)

-- [ NOT ]
abbrev pub Negation : Language Bool
Negation = mapped is_written (maybe (word terminal.Not))

-- "(" literal { "," literal } ")"
abbrev pub InValueList : Language (List LiteralNode)
InValueList = in_parentheses (listed terminal.Comma Literal)

-- operand op operand | operand [ NOT ] BETWEEN operand AND operand | operand [ NOT ] IN "(" literal { "," literal } ")"
abbrev pub Predicate : Language TestNode
Predicate = mapped comparison (Operand ▸ ComparisonOperator ▸ Operand)
    ∪ mapped between (Operand ▸ Negation ▸ word terminal.Between ▸ Operand ▸ word terminal.And ▸ Operand)
    ∪ mapped among_values (Operand ▸ Negation ▸ word terminal.In ▸ InValueList)

-- "(" cond ")" or a predicate. C is the language of conditions
abbrev pub BooleanTest : Language CondNode → Language CondNode
BooleanTest C = in_parentheses C
    ∪ mapped tested Predicate

-- ---- conditions. T is the language of tests

-- [ NOT ] test
abbrev pub BooleanFactor : Language CondNode → Language CondNode
BooleanFactor T = mapped negate (Negation ▸ T)

-- factor { AND factor }
abbrev pub BooleanTerm : Language CondNode → Language CondNode
BooleanTerm T = mapped all_of (listed terminal.And (BooleanFactor T))

-- term { OR term }
abbrev pub ConditionOf : Language CondNode → Language CondNode
ConditionOf T = mapped any_of (listed terminal.Or (BooleanTerm T))

-- the language without any text
abbrev pub EmptyLanguage : {A : Type 0} → Language A
EmptyLanguage text value = ⊥

-- the tests in which parentheses around conditions are nested at most n deep
abbrev pub TestWithin : ℕ → Language CondNode
TestWithin zero = BooleanTest EmptyLanguage
TestWithin (suc n) = BooleanTest (ConditionOf (TestWithin n))

-- the conditions, however deep their parentheses are nested
unfoldable pub SearchCondition : Language CondNode
SearchCondition text value = (n : ℕ) × ConditionOf (TestWithin n) text value

-- ---- queries. C is the language of conditions

-- name [ [ AS ] name ]
abbrev pub TableReference : Language SourceNode
TableReference = mapped source (Name ▸ NewName)

-- [ INNER ] JOIN source ON cond
abbrev pub QualifiedJoin : Language CondNode → Language JoinedNode
QualifiedJoin C = mapped join (maybe (word terminal.Inner) ▸ word terminal.Join ▸ TableReference ▸ word terminal.On ▸ C)

-- source { [ INNER ] JOIN source ON cond }
abbrev pub FromPart : Language CondNode → Language FromItemNode
FromPart C = mapped part (TableReference ▸ many (QualifiedJoin C))

-- name "." "*" | colref [ [ AS ] name ]
abbrev pub SelectSublist : Language OutNode
SelectSublist = mapped all_columns (Name ▸ word terminal.Dot ▸ word terminal.Star)
    ∪ mapped one_column (ColumnReference ▸ NewName)

-- "*" | out { "," out }
abbrev pub SelectList : Language OutsNode
SelectList = mapped everything (word terminal.Star)
    ∪ mapped these_outs (listed terminal.Comma SelectSublist)

-- [ WHERE cond ]
abbrev pub WhereClause : Language CondNode → Language (Option CondNode)
WhereClause C = maybe (mapped second (word terminal.Where ▸ C))

-- SELECT outs FROM part { "," part } [ WHERE cond ] [ ";" ]
abbrev pub QueryOf : Language CondNode → Language QueryNode
QueryOf C =
    mapped query (word terminal.Select ▸ SelectList
    ▸ word terminal.From ▸ listed terminal.Comma (FromPart C) ▸ WhereClause C ▸ maybe (word terminal.Semicolon))

unfoldable pub QuerySpecification : Language QueryNode
QuerySpecification = QueryOf SearchCondition
