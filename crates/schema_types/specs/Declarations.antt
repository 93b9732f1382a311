-- What a schema text declares, as it is written.
use Rattle.std.specs.Prelude.{ℕ, Bool, true, false, List, [], ◌∷◌, map, Option, Some, None, option_and_then, slice_get}
use Rattle.std.specs.List.{flat_map, list_any}
use Rattle.ll_grammars.specs.declared.lexeme.Lexeme.{Lexeme}
use Rattle.schema_grammar.specs.declared.tree.TargetNode.{TargetNode}
use Rattle.schema_grammar.specs.declared.tree.ColumnConstraintNode.{ColumnConstraintNode}
use Rattle.schema_grammar.specs.declared.tree.ColumnConstraintNode.TheVariants as column_rule
use Rattle.schema_grammar.specs.declared.tree.ColumnNode.{ColumnNode}
use Rattle.schema_grammar.specs.declared.tree.TableConstraintNode.{TableConstraintNode}
use Rattle.schema_grammar.specs.declared.tree.TableConstraintNode.TheVariants as table_rule
use Rattle.schema_grammar.specs.declared.tree.Element.{Element}
use Rattle.schema_grammar.specs.declared.tree.Element.TheVariants as element
use Rattle.schema_grammar.specs.declared.tree.TableNode.{TableNode}
use Rattle.sql_tokens.specs.Words.{name_of}
use Rattle.schema_types.specs.Names.{first, list_if, names_of, index_of_name}

abbrev pub element_columns : Element → List ColumnNode
element_columns (element.Column column) = column ∷ []
element_columns (element.Rule _) = []

-- the columns among a table's elements
abbrev pub columns : List Element → List ColumnNode
columns elements = flat_map element_columns elements

abbrev pub column_tokens : List Element → List Lexeme
column_tokens elements = map (λ column. column.name) (columns elements)

abbrev pub column_names : List ℕ → List Element → List (List ℕ)
column_names text elements = names_of text (column_tokens elements)

abbrev pub table_tokens : List TableNode → List Lexeme
table_tokens tables = map (λ table. table.name) tables

abbrev pub table_names : List ℕ → List TableNode → List (List ℕ)
table_names text tables = names_of text (table_tokens tables)

-- ---- primary keys

abbrev pub is_primary_rule : ColumnConstraintNode → Bool
is_primary_rule column_rule.NotNull = false
is_primary_rule (column_rule.PrimaryKey _) = true
is_primary_rule column_rule.Unique = false
is_primary_rule (column_rule.References _) = false

-- the primary key that a column's definition declares: it has only this column
abbrev pub column_primary_key : ColumnNode → List (List Lexeme)
column_primary_key column = list_if (list_any is_primary_rule column.rules) (column.name ∷ [])

abbrev pub rule_primary_key : TableConstraintNode → List (List Lexeme)
rule_primary_key (table_rule.PrimaryKey _ columns) = columns ∷ []
rule_primary_key (table_rule.Unique _) = []
rule_primary_key (table_rule.ForeignKey _ _) = []

-- the primary key that an element declares, as the list of its columns
abbrev pub element_primary_key : Element → List (List Lexeme)
element_primary_key (element.Column column) = column_primary_key column
element_primary_key (element.Rule rule) = rule_primary_key rule

-- a table's first primary key in text order, as it is written
unfoldable pub primary_key : List Element → Option (List Lexeme)
primary_key elements = first (flat_map element_primary_key elements)

-- ---- references

-- the number of the table that a reference names: the first table of this name
abbrev pub target_number : List ℕ → List TableNode → TargetNode → Option ℕ
target_number text tables target = index_of_name (table_names text tables) (name_of text target.table)

abbrev pub target_table : List ℕ → List TableNode → TargetNode → Option TableNode
target_table text tables target = option_and_then (slice_get tables) (target_number text tables target)

-- the columns that a reference refers to: the columns that are written, or the target's primary key if no columns are written
abbrev pub referenced_columns : Option (List Lexeme) → List Element → Option (List Lexeme)
referenced_columns (Some columns) elements = Some columns
referenced_columns None elements = primary_key elements
