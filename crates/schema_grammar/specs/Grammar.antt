-- The grammar of schema texts, rule by rule, after SQL-92 11.3 (tables), 11.4 (columns), 11.7 (unique and primary keys)
-- and 11.8 (references).
use Rattle.std.specs.Prelude.{List, [], ◌∷◌, Option}
use Rattle.ll_grammars.specs.declared.lexeme.Lexeme.{Lexeme}
use Rattle.ll_grammars.specs.declared.terminal.Terminal.{Terminal}
use Rattle.ll_grammars.specs.declared.terminal.Terminal.TheVariants as terminal
use Rattle.ll_grammars.specs.Language.{Language, one, ◌▸◌, mapped, ◌∪◌, maybe, many}
use Rattle.ll_grammars.specs.Rules.{second, word, listed, in_parentheses}
use Rattle.schema_grammar.specs.declared.tree.TargetNode.{TargetNode}
use Rattle.schema_grammar.specs.declared.tree.TypeNode.{TypeNode}
use Rattle.schema_grammar.specs.declared.tree.TypeNode.TheVariants as type
use Rattle.schema_grammar.specs.declared.tree.ColumnConstraintNode.{ColumnConstraintNode}
use Rattle.schema_grammar.specs.declared.tree.ColumnConstraintNode.TheVariants as column_rule
use Rattle.schema_grammar.specs.declared.tree.ColumnNode.{ColumnNode}
use Rattle.schema_grammar.specs.declared.tree.TableConstraintNode.{TableConstraintNode}
use Rattle.schema_grammar.specs.declared.tree.TableConstraintNode.TheVariants as table_rule
use Rattle.schema_grammar.specs.declared.tree.Element.{Element}
use Rattle.schema_grammar.specs.declared.tree.Element.TheVariants as element
use Rattle.schema_grammar.specs.declared.tree.TableNode.{TableNode}

-- ---- the value of a rule, from the values of its parts

-- a part whose value isn't kept
abbrev pub drop_value : {A : Type 0} → A → Unit {0}
drop_value value = tt

abbrev pub target : Lexeme × (Option (List Lexeme) × Unit {0}) → TargetNode
target parts = record { table = parts.0; columns = parts.1.0 }

abbrev pub number_type : Lexeme → TypeNode
number_type word = type.Number

abbrev pub text_type : Lexeme × Lexeme → TypeNode
text_type parts = type.Text parts.1

abbrev pub varying_type : Lexeme × (Lexeme × Lexeme) → TypeNode
varying_type parts = type.Text parts.1.1

abbrev pub not_null : Lexeme × Lexeme → ColumnConstraintNode
not_null words = column_rule.NotNull

abbrev pub primary_key : Lexeme × Lexeme → ColumnConstraintNode
primary_key words = column_rule.PrimaryKey words.0

abbrev pub unique : Lexeme → ColumnConstraintNode
unique word = column_rule.Unique

abbrev pub references : Lexeme × TargetNode → ColumnConstraintNode
references parts = column_rule.References parts.1

abbrev pub column : Lexeme × (TypeNode × List ColumnConstraintNode) → ColumnNode
column parts = record { name = parts.0; kind = parts.1.0; rules = parts.1.1 }

abbrev pub primary_key_over : Lexeme × (Lexeme × List Lexeme) → TableConstraintNode
primary_key_over parts = table_rule.PrimaryKey parts.0 parts.1.1

abbrev pub unique_over : Lexeme × List Lexeme → TableConstraintNode
unique_over parts = table_rule.Unique parts.1

abbrev pub foreign_key : Lexeme × (Lexeme × (List Lexeme × (Lexeme × TargetNode))) → TableConstraintNode
foreign_key parts = table_rule.ForeignKey parts.1.1.0 parts.1.1.1.1

abbrev pub of_column : ColumnNode → Element
of_column c = element.Column c

abbrev pub of_rule : TableConstraintNode → Element
of_rule rule = element.Rule rule

abbrev pub table : Lexeme × (Lexeme × (Lexeme × List Element)) → TableNode
table parts = record { name = parts.1.1.0; elements = parts.1.1.1 }

abbrev pub tables : TableNode × (List TableNode × Option Lexeme) → List TableNode
tables parts = parts.0 ∷ parts.1.0

-- ---- names

-- KEY, NO, ACTION and CASCADE are keywords only where the grammar expects them; elsewhere they are names
abbrev pub name_terminals : List Terminal
name_terminals = terminal.Name ∷ terminal.Key ∷ terminal.No ∷ terminal.Action ∷ terminal.Cascade ∷ []

abbrev pub Name : Language Lexeme
Name = one name_terminals

-- name { "," name }
abbrev pub Names : Language (List Lexeme)
Names = listed terminal.Comma Name

-- ---- types

-- INT | INTEGER | SMALLINT | BIGINT
abbrev pub number_types : List Terminal
number_types = terminal.Int ∷ terminal.Integer ∷ terminal.Smallint ∷ terminal.Bigint ∷ []

-- "(" n ")"
abbrev pub Length : Language Lexeme
Length = in_parentheses (word terminal.Number)

abbrev pub DataType : Language TypeNode
DataType = mapped number_type (one number_types)
    ∪ mapped text_type (word terminal.Varchar ▸ Length)
    ∪ mapped varying_type (one (terminal.Char ∷ terminal.Character ∷ []) ▸ word terminal.Varying ▸ Length)

-- ---- references

-- NO ACTION | CASCADE | SET NULL | SET DEFAULT
abbrev pub ReferentialAction : Language (Unit {0})
ReferentialAction = mapped drop_value (word terminal.No ▸ word terminal.Action)
    ∪ mapped drop_value (word terminal.Cascade)
    ∪ mapped drop_value (word terminal.Set ▸ one (terminal.Null ∷ terminal.Default ∷ []))

-- ON ( DELETE | UPDATE ) action
abbrev pub TriggeredAction : Language (Unit {0})
TriggeredAction = mapped drop_value (word terminal.On ▸ one (terminal.Delete ∷ terminal.Update ∷ []) ▸ ReferentialAction)

-- name [ "(" names ")" ] { ON .. }
abbrev pub Target : Language TargetNode
Target = mapped target (Name ▸ maybe (in_parentheses Names) ▸ mapped drop_value (many TriggeredAction))

-- ---- constraints of columns and of tables

-- [ CONSTRAINT name ]
abbrev pub ConstraintName : Language (Unit {0})
ConstraintName = mapped drop_value (maybe (word terminal.Constraint ▸ Name))

abbrev pub with_constraint_name : {A : Type 0} → Language A → Language A
with_constraint_name L = mapped second (ConstraintName ▸ L)

abbrev pub ColumnConstraint : Language ColumnConstraintNode
ColumnConstraint = mapped not_null (word terminal.Not ▸ word terminal.Null)
    ∪ mapped primary_key (word terminal.Primary ▸ word terminal.Key)
    ∪ mapped unique (word terminal.Unique)
    ∪ mapped references (word terminal.References ▸ Target)

abbrev pub TableConstraint : Language TableConstraintNode
TableConstraint = mapped primary_key_over (word terminal.Primary ▸ word terminal.Key ▸ in_parentheses Names)
    ∪ mapped unique_over (word terminal.Unique ▸ in_parentheses Names)
    ∪ mapped foreign_key (word terminal.Foreign ▸ word terminal.Key ▸ in_parentheses Names ▸ word terminal.References ▸ Target)

-- ---- tables

-- name type { [ CONSTRAINT name ] constraint }
abbrev pub ColumnDefinition : Language ColumnNode
ColumnDefinition = mapped column (Name ▸ DataType ▸ many (with_constraint_name ColumnConstraint))

-- column | [ CONSTRAINT name ] constraint
abbrev pub TableElement : Language Element
TableElement = mapped of_column ColumnDefinition ∪ mapped of_rule (with_constraint_name TableConstraint)

-- CREATE TABLE name "(" element { "," element } ")"
abbrev pub TableDefinition : Language TableNode
TableDefinition = mapped table (word terminal.Create ▸ word terminal.Table ▸ Name ▸ in_parentheses (listed terminal.Comma TableElement))

-- table { ";" table } [ ";" ]
unfoldable pub SchemaText : Language (List TableNode)
SchemaText = mapped tables
    (TableDefinition ▸ many (mapped second (word terminal.Semicolon ▸ TableDefinition)) ▸ maybe (word terminal.Semicolon))
