-- The offsets of errors (`offences`): names that are unknown or ambiguous, and operands of the wrong kind.
use Rattle.std.specs.Prelude.{ℕ, Bool, true, false, not, nat_lt, if◌then◌else◌, List, [], ◌∷◌, ◌++◌, length, map, Option, Some, None, is_none, unwrap_or}
use Rattle.std.specs.List.{flat_map}
use Rattle.limits.specs.Profile.{most_values}
use Rattle.ll_grammars.specs.declared.lexeme.Lexeme.{Lexeme}
use Rattle.sql_tokens.specs.Words.{name_of}
use Rattle.query_grammar.specs.declared.tree.ColumnNode.{ColumnNode}
use Rattle.query_grammar.specs.declared.tree.LiteralNode.{LiteralNode}
use Rattle.query_grammar.specs.declared.tree.LiteralNode.TheVariants as literal
use Rattle.query_grammar.specs.declared.tree.OperandNode.{OperandNode}
use Rattle.query_grammar.specs.declared.tree.OperandNode.TheVariants as operand
use Rattle.query_grammar.specs.declared.tree.TestNode.{TestNode}
use Rattle.query_grammar.specs.declared.tree.TestNode.TheVariants as test
use Rattle.query_grammar.specs.declared.tree.OutNode.{OutNode}
use Rattle.query_grammar.specs.declared.tree.OutNode.TheVariants as out
use Rattle.query_grammar.specs.declared.tree.OutsNode.{OutsNode}
use Rattle.query_grammar.specs.declared.tree.OutsNode.TheVariants as outs
use Rattle.query_grammar.specs.declared.tree.QueryNode.{QueryNode}
use Rattle.schema_types.specs.declared.types.Schema.{Schema}
use Rattle.query_names.specs.declared.scope.EntryColumn.{EntryColumn}
use Rattle.query_names.specs.declared.scope.Scope.{Scope}
use Rattle.query_types.specs.declared.types.Source.{Source}
use Rattle.query_types.specs.Validity.{is_text}
use Rattle.query_names.specs.Names.{offset_if, from_offences}
use Rattle.query_names.specs.Scopes.{resolve, head_of, entry_named, whole_scope, ConditionInScope, conditions, tests}

-- ---- the operands that a test compares

abbrev pub of_literal : LiteralNode → OperandNode
of_literal value = operand.Literal value

abbrev pub left_of : TestNode → OperandNode
left_of (test.Compare left op right) = left
left_of (test.Between left negated low high) = left
left_of (test.In left negated values) = left

-- the operands and literals that the left operand is compared with, in text order
abbrev pub others_of : TestNode → List OperandNode
others_of (test.Compare left op right) = right ∷ []
others_of (test.Between left negated low high) = low ∷ high ∷ []
others_of (test.In left negated values) = map of_literal values

abbrev pub first_of_literal : LiteralNode → Lexeme
first_of_literal (literal.Number sign digits) = unwrap_or sign digits
first_of_literal (literal.Text token) = token

-- the first token of an operand
abbrev pub first_of : OperandNode → Lexeme
first_of (operand.Column reference) = head_of reference
first_of (operand.Literal value) = first_of_literal value

abbrev pub is_text_literal : LiteralNode → Bool
is_text_literal (literal.Number sign digits) = false
is_text_literal (literal.Text token) = true

abbrev pub differ : Bool → Bool → Bool
differ true b = not b
differ false b = b

module _ (schema : Schema) (text : List ℕ) (from : List Source) (scope : Scope) where
  -- ---- wrong names

  abbrev pub reference_offences : ColumnNode → List ℕ
  reference_offences reference = offset_if (is_none (resolve schema text from scope reference)) (head_of reference)

  abbrev pub operand_offences : OperandNode → List ℕ
  operand_offences (operand.Column reference) = reference_offences reference
  operand_offences (operand.Literal value) = []

  abbrev pub test_offences : TestNode → List ℕ
  test_offences t = flat_map operand_offences (left_of t ∷ others_of t)

  abbrev pub out_offences : OutNode → List ℕ
  out_offences (out.All alias) = offset_if (is_none (entry_named from scope (name_of text alias))) alias
  out_offences (out.Column reference name) = reference_offences reference

  abbrev pub outs_offences : OutsNode → List ℕ
  outs_offences outs.All = []
  outs_offences (outs.Listed list) = flat_map out_offences list

  -- ---- wrong kinds

  abbrev pub is_text_column : Option EntryColumn → Bool
  is_text_column None = false
  is_text_column (Some column) = is_text column.kind

  abbrev pub is_text_operand : OperandNode → Bool
  is_text_operand (operand.Column reference) = is_text_column (resolve schema text from scope reference)
  is_text_operand (operand.Literal value) = is_text_literal value

  -- the offset of `other`, if it isn't of the left operand's kind
  abbrev pub kind_offence : Bool → OperandNode → List ℕ
  kind_offence left other = offset_if (differ left (is_text_operand other)) (first_of other)

  abbrev pub kind_offences : TestNode → List ℕ
  kind_offences t = flat_map (kind_offence (is_text_operand (left_of t))) (others_of t)

module _ (schema : Schema) (text : List ℕ) (from : List Source) where
  abbrev pub name_offences_in : ConditionInScope → List ℕ
  name_offences_in c = flat_map (test_offences schema text from c.scope) (tests c.condition)

  abbrev pub kind_offences_in : ConditionInScope → List ℕ
  kind_offences_in c = flat_map (kind_offences schema text from c.scope) (tests c.condition)

  -- the offsets of wrong names: first those in FROM, then those in the SELECT list, then those in the ON conditions and in WHERE
  unfoldable pub name_offences : QueryNode → List ℕ
  name_offences query =
      from_offences schema text query
      ++ outs_offences schema text from (whole_scope from) query.outs
      ++ flat_map name_offences_in (conditions from query)

  unfoldable pub all_kind_offences : QueryNode → List ℕ
  all_kind_offences query = flat_map kind_offences_in (conditions from query)

-- ---- IN lists that are too long

-- the length of a test's IN list, if the list has more than 1,000 values; for any other test the empty list
abbrev pub long_list_length : TestNode → List ℕ
long_list_length (test.Compare left op right) = []
long_list_length (test.Between left negated low high) = []
long_list_length (test.In left negated values) = if nat_lt most_values (length values) then length values ∷ [] else []
