-- The tokens of a schema's syntax tree. Each token has the property P, and each name has a terminal that names may have. Each length of a text type
-- is a number that isn't zero.
use Rattle.std.specs.Prelude.{All, IfSome, ⊤, List, [], ◌∷◌}
use Rattle.ll_grammars.specs.declared.lexeme.Lexeme.{Lexeme}
use Rattle.ll_grammars.specs.declared.terminal.Terminal.TheVariants as terminal
use Rattle.ll_grammars.specs.Preserving.{IsOneOf}
use Rattle.schema_grammar.specs.declared.tree.TargetNode.{TargetNode}
use Rattle.schema_grammar.specs.declared.tree.TypeNode.{TypeNode}
use Rattle.schema_grammar.specs.declared.tree.TypeNode.TheVariants as type
use Rattle.schema_grammar.specs.declared.tree.ColumnConstraintNode.{ColumnConstraintNode}
use Rattle.schema_grammar.specs.declared.tree.ColumnConstraintNode.TheVariants as column_rule
use Rattle.schema_grammar.specs.declared.tree.ColumnNode.{ColumnNode}
use Rattle.schema_grammar.specs.declared.tree.TableConstraintNode.{TableConstraintNode}
use Rattle.schema_grammar.specs.declared.tree.TableConstraintNode.TheVariants as table_rule
use Rattle.schema_grammar.specs.declared.tree.Element.{Element}
use Rattle.schema_grammar.specs.declared.tree.Element.TheVariants as element
use Rattle.schema_grammar.specs.declared.tree.TableNode.{TableNode}
use Rattle.schema_grammar.specs.Grammar.{name_terminals}

abbrev pub IsNameWith : (Lexeme → Type 0) → Lexeme → Type 0
IsNameWith P token = IsOneOf name_terminals P token

abbrev pub IsTargetWith : (Lexeme → Type 0) → TargetNode → Type 0
IsTargetWith P target = IsNameWith P target.table × IfSome target.columns (All (IsNameWith P))

abbrev pub IsTypeWith : (Lexeme → Type 0) → TypeNode → Type 0
IsTypeWith P type.Number = ⊤
IsTypeWith P (type.Text length) = IsOneOf (terminal.Number ∷ []) P length

abbrev pub IsColumnConstraintWith : (Lexeme → Type 0) → ColumnConstraintNode → Type 0
IsColumnConstraintWith P column_rule.NotNull = ⊤
IsColumnConstraintWith P (column_rule.PrimaryKey word) = IsOneOf (terminal.Primary ∷ []) P word
IsColumnConstraintWith P column_rule.Unique = ⊤
IsColumnConstraintWith P (column_rule.References target) = IsTargetWith P target

abbrev pub IsColumnWith : (Lexeme → Type 0) → ColumnNode → Type 0
IsColumnWith P column = IsNameWith P column.name × IsTypeWith P column.kind × All (IsColumnConstraintWith P) column.rules

abbrev pub IsTableConstraintWith : (Lexeme → Type 0) → TableConstraintNode → Type 0
IsTableConstraintWith P (table_rule.PrimaryKey word columns) = IsOneOf (terminal.Primary ∷ []) P word × All (IsNameWith P) columns
IsTableConstraintWith P (table_rule.Unique columns) = All (IsNameWith P) columns
IsTableConstraintWith P (table_rule.ForeignKey columns target) = All (IsNameWith P) columns × IsTargetWith P target

abbrev pub IsElementWith : (Lexeme → Type 0) → Element → Type 0
IsElementWith P (element.Column column) = IsColumnWith P column
IsElementWith P (element.Rule rule) = IsTableConstraintWith P rule

abbrev pub IsTableWith : (Lexeme → Type 0) → TableNode → Type 0
IsTableWith P table = IsNameWith P table.name × All (IsElementWith P) table.elements

-- every token of the trees has P
unfoldable pub AreTablesWith : (Lexeme → Type 0) → List TableNode → Type 0
AreTablesWith P tables = All (IsTableWith P) tables
