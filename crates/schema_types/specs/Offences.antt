-- Where rules on names are broken (SQL-92 11.3, 11.4, 11.7 and 11.8, in this profile). An offence is a byte offset, and offences are in text order.
use Rattle.std.specs.Prelude.{ℕ, Bool, true, false, not, ◌||◌, ◌==◌, List, [], ◌∷◌, ◌++◌, map, length, Option, Some, None, is_none}
use Rattle.std.specs.List.{list_any}
use Rattle.std.specs.Str.{bytes_eq}
use Rattle.ll_grammars.specs.declared.lexeme.Lexeme.{Lexeme}
use Rattle.schema_grammar.specs.declared.tree.TargetNode.{TargetNode}
use Rattle.schema_grammar.specs.declared.tree.ColumnConstraintNode.{ColumnConstraintNode}
use Rattle.schema_grammar.specs.declared.tree.ColumnConstraintNode.TheVariants as column_rule
use Rattle.schema_grammar.specs.declared.tree.ColumnNode.{ColumnNode}
use Rattle.schema_grammar.specs.declared.tree.TableConstraintNode.{TableConstraintNode}
use Rattle.schema_grammar.specs.declared.tree.TableConstraintNode.TheVariants as table_rule
use Rattle.schema_grammar.specs.declared.tree.Element.{Element}
use Rattle.schema_grammar.specs.declared.tree.Element.TheVariants as element
use Rattle.schema_grammar.specs.declared.tree.TableNode.{TableNode}
use Rattle.sql_tokens.specs.Words.{name_of}
use Rattle.schema_types.specs.Names.{list_if, index_of_name, names_of, flat_map_with_all_earlier}
use Rattle.schema_types.specs.Declarations.{column_names, table_names, is_primary_rule, primary_key, target_table}
use Rattle.schema_types.specs.Validity.{upper_case, has_only_word_bytes}

-- whether a name is equal to one of `names`
abbrev pub is_one_of : List ℕ → List (List ℕ) → Bool
is_one_of name names = list_any (bytes_eq name) names

-- whether a name is equal to one of `names`, both in ASCII upper case
abbrev pub is_taken : List ℕ → List (List ℕ) → Bool
is_taken name names = is_one_of (upper_case name) (map upper_case names)

-- ---- lists of columns

-- the offence of a listed column: the table doesn't declare it, or it is in the list already
unfoldable pub listed_offences : List ℕ → List (List ℕ) → List Lexeme → Lexeme → List ℕ
listed_offences text declared earlier column =
    list_if (is_none (index_of_name declared (name_of text column)) || is_one_of (name_of text column) (names_of text earlier)) column.start

unfoldable pub list_offences : List ℕ → List (List ℕ) → List Lexeme → List ℕ
list_offences text declared columns = flat_map_with_all_earlier (listed_offences text declared) columns

-- ---- references

-- the offences in the target columns of a reference, which must be `count` columns. `elements` are those of the target table. If the reference
-- doesn't refer to `count` columns, the offence is at the target's name
abbrev pub target_column_offences : List ℕ → ℕ → Lexeme → Option (List Lexeme) → List Element → List ℕ
target_column_offences text count name (Some columns) elements =
    list_if (not (length columns == count)) name.start ++ list_offences text (column_names text elements) columns
target_column_offences text count name None elements = key_offences (primary_key elements)
  where
    -- the reference lists no columns: there must be a primary key of `count` columns
    key_offences : Option (List Lexeme) → List ℕ
    key_offences None = name.start ∷ []
    key_offences (Some key) = list_if (not (length key == count)) name.start

abbrev pub target_offences_in : List ℕ → ℕ → TargetNode → Option TableNode → List ℕ
target_offences_in text count target None = target.table.start ∷ []
target_offences_in text count target (Some table) = target_column_offences text count target.table target.columns table.elements

-- the offences of a reference from `count` columns
unfoldable pub target_offences : List ℕ → List TableNode → ℕ → TargetNode → List ℕ
target_offences text tables count target = target_offences_in text count target (target_table text tables target)

-- ---- elements of a table

-- whether an element declares a primary key
abbrev pub is_primary : Element → Bool
is_primary (element.Column column) = list_any is_primary_rule column.rules
is_primary (element.Rule (table_rule.PrimaryKey _ _)) = true
is_primary (element.Rule (table_rule.Unique _)) = false
is_primary (element.Rule (table_rule.ForeignKey _ _)) = false

-- the offences of a column's constraint, given the constraints before it. `keyed` says whether the table has a primary key before the column
unfoldable pub rule_offences : List ℕ → List TableNode → Bool → List ColumnConstraintNode → ColumnConstraintNode → List ℕ
rule_offences text tables keyed earlier column_rule.NotNull = []
rule_offences text tables keyed earlier (column_rule.PrimaryKey word) = list_if (keyed || list_any is_primary_rule earlier) word.start
rule_offences text tables keyed earlier column_rule.Unique = []
rule_offences text tables keyed earlier (column_rule.References target) = target_offences text tables 1 target

-- the offences of a column: an earlier column has the same name, or a constraint of the column has an offence
unfoldable pub column_offences : List ℕ → List TableNode → List Element → ColumnNode → List ℕ
column_offences text tables earlier column =
    list_if (is_taken (name_of text column.name) (column_names text earlier)) column.name.start
    ++ flat_map_with_all_earlier (rule_offences text tables (list_any is_primary earlier)) column.rules

-- the offences of a constraint of a table. `declared` are the table's columns
unfoldable pub table_rule_offences : List ℕ → List TableNode → List (List ℕ) → List Element → TableConstraintNode → List ℕ
table_rule_offences text tables declared earlier (table_rule.PrimaryKey word columns) =
    list_if (list_any is_primary earlier) word.start ++ list_offences text declared columns
table_rule_offences text tables declared earlier (table_rule.Unique columns) = list_offences text declared columns
table_rule_offences text tables declared earlier (table_rule.ForeignKey columns target) =
    list_offences text declared columns ++ target_offences text tables (length columns) target

-- the offences of an element of a table, given the elements before it. `declared` are the table's columns
unfoldable pub element_offences : List ℕ → List TableNode → List (List ℕ) → List Element → Element → List ℕ
element_offences text tables declared earlier (element.Column column) = column_offences text tables earlier column
element_offences text tables declared earlier (element.Rule rule) = table_rule_offences text tables declared earlier rule

-- ---- tables

-- the offences of a table, given the tables before it
unfoldable pub table_offences : List ℕ → List TableNode → List TableNode → TableNode → List ℕ
table_offences text tables earlier table =
    list_if (not (has_only_word_bytes (name_of text table.name)) || is_taken (name_of text table.name) (table_names text earlier)) table.name.start
    ++ flat_map_with_all_earlier (element_offences text tables (column_names text table.elements)) table.elements

-- all byte offsets at which a rule on names is broken, in text order
unfoldable pub offences : List ℕ → List TableNode → List ℕ
offences text tables = flat_map_with_all_earlier (table_offences text tables) tables
