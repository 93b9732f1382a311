-- The schema that a schema text declares, or its refusal.
use Rattle.std.specs.Prelude.{ℕ, List, [], ◌∷◌, map, length, Option, Some, None, option_map, unwrap_or, Result, Ok, Err}
use Rattle.std.specs.List.{flat_map}
use Rattle.limits.specs.Profile.{most_columns, most_length, most_tables}
use Rattle.ll_grammars.specs.declared.lexeme.Lexeme.{Lexeme}
use Rattle.schema_grammar.specs.declared.tree.TargetNode.{TargetNode}
use Rattle.schema_grammar.specs.declared.tree.TypeNode.{TypeNode}
use Rattle.schema_grammar.specs.declared.tree.TypeNode.TheVariants as type_text
use Rattle.schema_grammar.specs.declared.tree.ColumnConstraintNode.{ColumnConstraintNode}
use Rattle.schema_grammar.specs.declared.tree.ColumnConstraintNode.TheVariants as column_rule
use Rattle.schema_grammar.specs.declared.tree.ColumnNode.{ColumnNode}
use Rattle.schema_grammar.specs.declared.tree.TableConstraintNode.{TableConstraintNode}
use Rattle.schema_grammar.specs.declared.tree.TableConstraintNode.TheVariants as table_rule
use Rattle.schema_grammar.specs.declared.tree.Element.{Element}
use Rattle.schema_grammar.specs.declared.tree.Element.TheVariants as element
use Rattle.schema_grammar.specs.declared.tree.TableNode.{TableNode}
use Rattle.sql_tokens.specs.Words.{name_of, number_of, slice}
use Rattle.schema_types.specs.declared.errors.LimitKind.TheVariants as limit
use Rattle.schema_types.specs.declared.errors.SchemaError.{SchemaError}
use Rattle.schema_types.specs.declared.errors.SchemaError.TheVariants as error
use Rattle.schema_types.specs.declared.types.Kind.{Kind}
use Rattle.schema_types.specs.declared.types.Kind.TheVariants as kind
use Rattle.schema_types.specs.declared.types.Column.{Column}
use Rattle.schema_types.specs.declared.types.Reference.{Reference}
use Rattle.schema_types.specs.declared.types.Table.{Table}
use Rattle.schema_types.specs.declared.types.Schema.{Schema}
use Rattle.schema_types.specs.Names.{first}
use Rattle.schema_types.specs.Numbers.{number_of_column, numbers_of_columns}
use Rattle.schema_types.specs.Declarations.{columns, column_names, target_number, target_table, referenced_columns}
use Rattle.schema_types.specs.Offences.{offences}
use Rattle.schema_types.specs.Refusals.{nullable_offsets, numbers_above, in_64_bits, column_counts, text_lengths}

-- ---- keys

-- the keys that a constraint of column `number` declares
abbrev pub rule_keys : ℕ → ColumnConstraintNode → List (List ℕ)
rule_keys number column_rule.NotNull = []
rule_keys number (column_rule.PrimaryKey _) = (number ∷ []) ∷ []
rule_keys number column_rule.Unique = (number ∷ []) ∷ []
rule_keys number (column_rule.References _) = []

abbrev pub column_keys : List ℕ → List (List ℕ) → ColumnNode → List (List ℕ)
column_keys text declared column = flat_map (rule_keys (number_of_column text declared column.name)) column.rules

abbrev pub table_rule_keys : List ℕ → List (List ℕ) → TableConstraintNode → List (List ℕ)
table_rule_keys text declared (table_rule.PrimaryKey _ columns) = numbers_of_columns text declared columns ∷ []
table_rule_keys text declared (table_rule.Unique columns) = numbers_of_columns text declared columns ∷ []
table_rule_keys text declared (table_rule.ForeignKey _ _) = []

-- the keys that an element declares by PRIMARY KEY or by UNIQUE
abbrev pub element_keys : List ℕ → List (List ℕ) → Element → List (List ℕ)
element_keys text declared (element.Column column) = column_keys text declared column
element_keys text declared (element.Rule rule) = table_rule_keys text declared rule

-- ---- references

-- the numbers of the columns that a reference refers to. If the reference lists no columns, these are the columns of the
-- target's primary key
abbrev pub target_column_numbers : List ℕ → Option (List Lexeme) → Option TableNode → List ℕ
target_column_numbers text written None = []
target_column_numbers text written (Some table) =
    unwrap_or (option_map (numbers_of_columns text (column_names text table.elements)) (referenced_columns written table.elements)) []

-- the reference from these columns to a target. The rows of files aren't tested against the reference
unfoldable pub reference_of : List ℕ → List TableNode → List ℕ → TargetNode → Reference
reference_of text tables from target = record {
  columns = from;
  table = unwrap_or (target_number text tables target) 0;
  targets = target_column_numbers text target.columns (target_table text tables target);
}

abbrev pub rule_references : List ℕ → List TableNode → ℕ → ColumnConstraintNode → List Reference
rule_references text tables number column_rule.NotNull = []
rule_references text tables number (column_rule.PrimaryKey _) = []
rule_references text tables number column_rule.Unique = []
rule_references text tables number (column_rule.References target) = reference_of text tables (number ∷ []) target ∷ []

abbrev pub column_references : List ℕ → List TableNode → List (List ℕ) → ColumnNode → List Reference
column_references text tables declared column = flat_map (rule_references text tables (number_of_column text declared column.name)) column.rules

abbrev pub table_rule_references : List ℕ → List TableNode → List (List ℕ) → TableConstraintNode → List Reference
table_rule_references text tables declared (table_rule.PrimaryKey _ _) = []
table_rule_references text tables declared (table_rule.Unique _) = []
table_rule_references text tables declared (table_rule.ForeignKey columns target) =
    reference_of text tables (numbers_of_columns text declared columns) target ∷ []

-- the references that an element declares
abbrev pub element_references : List ℕ → List TableNode → List (List ℕ) → Element → List Reference
element_references text tables declared (element.Column column) = column_references text tables declared column
element_references text tables declared (element.Rule rule) = table_rule_references text tables declared rule

-- ---- the schema

-- the kind of a type: all number types are one kind, of 64 bits, and a text's kind has its greatest length in characters
abbrev pub kind_of : List ℕ → TypeNode → Kind
kind_of text type_text.Number = kind.Int
kind_of text (type_text.Text length) = kind.Text (number_of (slice text length.start length.end))

abbrev pub column_of : List ℕ → ColumnNode → Column
column_of text column = record { name = name_of text column.name; kind = kind_of text column.kind }

abbrev pub element_column : List ℕ → Element → List Column
element_column text (element.Column column) = column_of text column ∷ []
element_column text (element.Rule _) = []

unfoldable pub table_of : List ℕ → List TableNode → TableNode → Table
table_of text tables table = record {
  name = name_of text table.name;
  columns = flat_map (element_column text) table.elements;
  keys = flat_map (element_keys text (column_names text table.elements)) table.elements;
  references = flat_map (element_references text tables (column_names text table.elements)) table.elements;
}

unfoldable pub schema_of : List ℕ → List TableNode → Schema
schema_of text tables = record { tables = map (table_of text tables) tables }

-- ---- the result

-- the refusal that `cause` makes of what was found, or `rest` if nothing was found
abbrev pub unless_found : Option ℕ → (ℕ → SchemaError) → Result Schema SchemaError → Result Schema SchemaError
unless_found None cause rest = rest
unless_found (Some found) cause rest = Err (cause found)

-- at most 64 tables, 64 columns in each table, and 1,000,000 characters in a text, tested in this order
unfoldable pub if_within_limits : List ℕ → List TableNode → Result Schema SchemaError → Result Schema SchemaError
if_within_limits text tables rest =
    unless_found (first (numbers_above most_tables (length tables ∷ []))) (λ found. error.Limit limit.Tables (in_64_bits found))
    (unless_found (first (numbers_above most_columns (column_counts tables))) (λ found. error.Limit limit.Columns (in_64_bits found))
    (unless_found (first (numbers_above most_length (text_lengths text tables))) (λ found. error.Limit limit.TextLength (in_64_bits found)) rest))

-- the schema that these tables declare, or the first refusal: names, then nullability, then limits
unfoldable pub schema_or_refusal : List ℕ → List TableNode → Result Schema SchemaError
schema_or_refusal text tables =
    unless_found (first (offences text tables)) (λ at. error.Name at)
    (unless_found (first (nullable_offsets text tables)) (λ at. error.Nullable at)
    (if_within_limits text tables (Ok (schema_of text tables))))
