-- What the code finds and builds when it checks the tests of a condition.
use Rattle.std.specs.Prelude.{◌≡◌, ◌≤◌, ℕ, Bool, false, not, if◌then◌else◌, List, [], ◌∷◌, ◌++◌, length, map, None}
use Rattle.std.specs.List.{flat_map}
use Rattle.limits.specs.Profile.{most_entries}
use Rattle.query_grammar.specs.declared.tree.LiteralNode.{LiteralNode}
use Rattle.query_grammar.specs.declared.tree.Op.TheVariants as op
use Rattle.query_grammar.specs.declared.tree.OperandNode.{OperandNode}
use Rattle.query_grammar.specs.declared.tree.TestNode.{TestNode}
use Rattle.query_grammar.specs.declared.tree.TestNode.TheVariants as test
use Rattle.query_types.specs.declared.types.Operand.{Operand}
use Rattle.query_types.specs.declared.types.Cond.{Cond}
use Rattle.query_types.specs.declared.types.Cond.TheVariants as cond
use Rattle.query_names.specs.declared.binder.Binder.{Binder}
use Rattle.query_names.specs.declared.checks.LateOffences.{LateOffences}
use Rattle.query_names.specs.declared.operands.ResolvedOperand.{ResolvedOperand}
use Rattle.query_names.specs.declared.scope.Scope.{Scope}
use Rattle.query_names.specs.Names.{offset_if}
use Rattle.query_names.specs.Offences.{first_of, first_of_literal, is_text_literal, differ, of_literal, long_list_length}
use Rattle.query_names.specs.Values.{literal_value, any_of}
use Rattle.query_names.specs.Answers.{or_first}
use Rattle.query_names.specs.Binding.{from_of, name_offences_of, is_text_by, test_offences_of, kind_offences_of, operand_by, compared_by}

-- ---- operands

-- the value, the kind and the first token of a literal
abbrev pub resolved_literal : List ℕ → LiteralNode → ResolvedOperand
resolved_literal text l = record { value = literal_value text l; is_text = is_text_literal l; first = first_of_literal l }

-- the operand has no wrong name, and `resolved` has its kind and its first token. If FROM has at most 12 entries, `resolved` also has its value
pub record IsResolvedOperand (binder : Binder) (scope : Scope) (operand : OperandNode) (resolved : ResolvedOperand) : Type 0 where
  pub none : name_offences_of binder scope operand ≡ []
  pub text : resolved.is_text ≡ is_text_by binder scope operand
  pub first : resolved.first ≡ first_of operand
  pub value : length (from_of binder) ≤ most_entries → resolved.value ≡ operand_by binder scope operand

-- ---- tests

-- the offset of an IN value whose kind isn't that of the left operand. `equal_to` is the equality with an IN value
abbrev pub wrong_literal : Bool → LiteralNode → List ℕ
wrong_literal left l = offset_if (differ left (is_text_literal l)) (first_of_literal l)

abbrev pub equal_to : List ℕ → Operand → LiteralNode → Cond
equal_to text left l = cond.Compare op.Eq left (literal_value text l)

-- the comparisons of a test: its left operand with each other operand
unfoldable pub comparisons_by : Binder → Scope → TestNode → List Cond
comparisons_by binder scope (test.Compare left how right) = compared_by binder scope how left right ∷ []
comparisons_by binder scope (test.Between left negated low high) =
    compared_by binder scope op.Ge left low ∷ compared_by binder scope op.Le left high ∷ []
comparisons_by binder scope (test.In left negated values) = map (λ value. compared_by binder scope op.Eq left (of_literal value)) values

-- the condition of a test, from its comparisons
abbrev pub test_condition : TestNode → List Cond → Cond
test_condition (test.Compare left how right) parts = (any_of parts).whole
test_condition (test.Between left negated low high) parts = if negated then cond.Not (cond.And parts) else cond.And parts
test_condition (test.In left negated values) parts = if negated then cond.Not (any_of parts).whole else (any_of parts).whole

-- whether a test counts as two members of its condition, one for each comparison
abbrev pub is_range : TestNode → Bool
is_range (test.Compare left how right) = false
is_range (test.Between left negated low high) = not negated
is_range (test.In left negated values) = false

-- ---- the state after some tests were checked

-- No name is wrong. `held'` keeps the first offset of a wrong kind, from earlier tests or else from `kinds`. Likewise it keeps the first length of a
-- list, from earlier tests or else from `lists`. The conditions `more` are added to `found`, if FROM has at most 12 entries and no length of a list
-- is kept.
pub record IsStateAfterChecks (binder : Binder) (names kinds lists : List ℕ) (held held' : LateOffences) (found found' more : List Cond) : Type 0 where
  pub none : names ≡ []
  pub kind : held'.kind ≡ or_first held.kind kinds
  pub list : held'.list ≡ or_first held.list lists
  pub built : length (from_of binder) ≤ most_entries → held'.list ≡ None → found' ≡ found ++ more

abbrev pub IsStateAfterTest : Binder → Scope → TestNode → LateOffences → LateOffences → List Cond → List Cond → List Cond → Type 0
IsStateAfterTest binder scope t held held' found found' more =
    IsStateAfterChecks binder (test_offences_of binder scope t) (kind_offences_of binder scope t) (long_list_length t) held held' found found' more

abbrev pub IsStateAfterTests : Binder → Scope → List TestNode → LateOffences → LateOffences → List Cond → List Cond → List Cond → Type 0
IsStateAfterTests binder scope ts held held' found found' more =
    IsStateAfterChecks binder (flat_map (test_offences_of binder scope) ts) (flat_map (kind_offences_of binder scope) ts) (flat_map long_list_length ts)
    held held' found found' more
