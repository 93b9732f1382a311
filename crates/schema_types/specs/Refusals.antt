-- The first column that may be null, and the first limit that is exceeded.
use Rattle.std.specs.Prelude.{ℕ, ◌^◌, ◌-◌, Bool, true, false, not, ◌||◌, nat_lt, min, List, [], ◌∷◌, map, filter, length, Option, Some, None}
use Rattle.std.specs.List.{flat_map, list_any}
use Rattle.ll_grammars.specs.declared.lexeme.Lexeme.{Lexeme}
use Rattle.schema_grammar.specs.declared.tree.TypeNode.{TypeNode}
use Rattle.schema_grammar.specs.declared.tree.TypeNode.TheVariants as type_text
use Rattle.schema_grammar.specs.declared.tree.ColumnConstraintNode.{ColumnConstraintNode}
use Rattle.schema_grammar.specs.declared.tree.ColumnConstraintNode.TheVariants as column_rule
use Rattle.schema_grammar.specs.declared.tree.ColumnNode.{ColumnNode}
use Rattle.schema_grammar.specs.declared.tree.Element.{Element}
use Rattle.schema_grammar.specs.declared.tree.Element.TheVariants as element
use Rattle.schema_grammar.specs.declared.tree.TableNode.{TableNode}
use Rattle.sql_tokens.specs.Words.{name_of, number_of, slice}
use Rattle.schema_types.specs.Names.{list_if, names_of}
use Rattle.schema_types.specs.Declarations.{columns, primary_key}
use Rattle.schema_types.specs.Offences.{is_one_of}

-- ---- nullability

abbrev pub is_not_null : ColumnConstraintNode → Bool
is_not_null column_rule.NotNull = true
is_not_null (column_rule.PrimaryKey _) = false
is_not_null column_rule.Unique = false
is_not_null (column_rule.References _) = false

-- the names in a table's primary key, if the table has one
abbrev pub key_names : List ℕ → Option (List Lexeme) → List (List ℕ)
key_names text None = []
key_names text (Some key) = names_of text key

-- whether a column neither has NOT NULL nor is in the primary key of these names
abbrev pub is_nullable : List ℕ → List (List ℕ) → ColumnNode → Bool
is_nullable text key column = not (list_any is_not_null column.rules || is_one_of (name_of text column.name) key)

abbrev pub nullable_element : List ℕ → List (List ℕ) → Element → List ℕ
nullable_element text key (element.Column column) = list_if (is_nullable text key column) column.name.start
nullable_element text key (element.Rule _) = []

-- the columns of a table that may be null, as the byte offsets of their names
unfoldable pub nullable_in : List ℕ → TableNode → List ℕ
nullable_in text table = flat_map (nullable_element text (key_names text (primary_key table.elements))) table.elements

-- the columns that may be null, as the byte offsets of their names in text order (SQL-92 11.4)
unfoldable pub nullable_offsets : List ℕ → List TableNode → List ℕ
nullable_offsets text tables = flat_map (nullable_in text) tables

-- ---- limits

-- the numbers that are above a limit
abbrev pub numbers_above : ℕ → List ℕ → List ℕ
numbers_above most numbers = filter (nat_lt most) numbers

-- the number, or 2^64 - 1 if the number is larger
abbrev pub in_64_bits : ℕ → ℕ
in_64_bits n = min n (2 ^ 64 - 1)

-- how many columns each table has
abbrev pub column_counts : List TableNode → List ℕ
column_counts tables = map (λ table. length (columns table.elements)) tables

-- the greatest length of texts of a type, if it is a text type
abbrev pub type_lengths : List ℕ → TypeNode → List ℕ
type_lengths text type_text.Number = []
type_lengths text (type_text.Text length) = number_of (slice text length.start length.end) ∷ []

abbrev pub element_lengths : List ℕ → Element → List ℕ
element_lengths text (element.Column column) = type_lengths text column.kind
element_lengths text (element.Rule _) = []

-- the lengths of all text types, in text order
unfoldable pub text_lengths : List ℕ → List TableNode → List ℕ
text_lengths text tables = flat_map (λ table. flat_map (element_lengths text) table.elements) tables
