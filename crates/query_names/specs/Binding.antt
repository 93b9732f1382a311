-- The definitions of this crate, applied to the schema, the text and the FROM entries of a `Binder`.
use Rattle.std.specs.Prelude.{◌≡◌, ℕ, Bool, List, take, Option}
use Rattle.std.specs.List.{filter_map, flat_map}
use Rattle.query_grammar.specs.declared.tree.CondNode.{CondNode}
use Rattle.query_grammar.specs.declared.tree.Op.{Op}
use Rattle.query_grammar.specs.declared.tree.OutNode.{OutNode}
use Rattle.query_grammar.specs.declared.tree.OutsNode.{OutsNode}
use Rattle.query_types.specs.declared.types.Operand.{Operand}
use Rattle.query_types.specs.declared.types.Cond.{Cond}
use Rattle.query_names.specs.Offences.{long_list_length}
use Rattle.query_names.specs.Values.{operand_value, comparison, test_meaning, meaning}
use Rattle.query_grammar.specs.declared.tree.ColumnNode.{ColumnNode}
use Rattle.query_grammar.specs.declared.tree.OperandNode.{OperandNode}
use Rattle.query_grammar.specs.declared.tree.TestNode.{TestNode}
use Rattle.schema_types.specs.declared.types.Schema.{Schema}
use Rattle.query_names.specs.declared.binder.Binder.{Binder}
use Rattle.query_names.specs.declared.scope.Entry.{Entry}
use Rattle.query_names.specs.declared.scope.EntryColumn.{EntryColumn}
use Rattle.query_names.specs.declared.scope.Scope.{Scope}
use Rattle.query_names.specs.declared.scope.Visible.{Visible}
use Rattle.query_types.specs.declared.types.Source.{Source}
use Rattle.query_names.specs.Names.{column_in}
use Rattle.query_names.specs.Scopes.{in_scope, resolve, ConditionInScope, tests}
use Rattle.query_names.specs.Offences.{operand_offences, is_text_operand, kind_offence, test_offences, kind_offences, out_offences, outs_offences}

abbrev pub schema_of : Binder → Schema
schema_of binder = binder.catalog.now.schema.now

abbrev pub from_of : Binder → List Source
from_of binder = binder.entries.now.sources

-- the columns `name` in the tables of `entries`
abbrev pub columns_in : Schema → List ℕ → List Entry → List EntryColumn
columns_in schema name entries = filter_map (column_in schema name) entries

-- for each name, the first two columns with it are the same in `first_two` as in all entries in scope
pub record FirstTwoAreEnough (binder : Binder) (visible : Visible) : Type 0 where
  pub same : (name : List ℕ)
      → take 2 (columns_in (schema_of binder) name visible.first_two)
      ≡ take 2 (columns_in (schema_of binder) name (in_scope (from_of binder) visible.scope))

abbrev pub resolved_by : Binder → Scope → ColumnNode → Option EntryColumn
resolved_by binder scope reference = resolve (schema_of binder) binder.text.now (from_of binder) scope reference

unfoldable pub name_offences_of : Binder → Scope → OperandNode → List ℕ
name_offences_of binder scope operand = operand_offences (schema_of binder) binder.text.now (from_of binder) scope operand

unfoldable pub is_text_by : Binder → Scope → OperandNode → Bool
is_text_by binder scope operand = is_text_operand (schema_of binder) binder.text.now (from_of binder) scope operand

unfoldable pub kind_offence_of : Binder → Scope → Bool → OperandNode → List ℕ
kind_offence_of binder scope left operand = kind_offence (schema_of binder) binder.text.now (from_of binder) scope left operand

unfoldable pub test_offences_of : Binder → Scope → TestNode → List ℕ
test_offences_of binder scope test = test_offences (schema_of binder) binder.text.now (from_of binder) scope test

unfoldable pub kind_offences_of : Binder → Scope → TestNode → List ℕ
kind_offences_of binder scope test = kind_offences (schema_of binder) binder.text.now (from_of binder) scope test

-- ---- conditions, each with the entries in its scope

unfoldable pub names_in : Binder → ConditionInScope → List ℕ
names_in binder c = flat_map (test_offences_of binder c.scope) (tests c.condition)

unfoldable pub kinds_in : Binder → ConditionInScope → List ℕ
kinds_in binder c = flat_map (kind_offences_of binder c.scope) (tests c.condition)

unfoldable pub long_lists_in : ConditionInScope → List ℕ
long_lists_in c = flat_map long_list_length (tests c.condition)

-- ---- values

unfoldable pub operand_by : Binder → Scope → OperandNode → Operand
operand_by binder scope operand = operand_value (schema_of binder) binder.text.now (from_of binder) scope operand

unfoldable pub compared_by : Binder → Scope → Op → OperandNode → OperandNode → Cond
compared_by binder scope op left right = comparison (schema_of binder) binder.text.now (from_of binder) scope op left right

-- the condition that a test means, and the members of this condition
unfoldable pub test_value_by : Binder → Scope → TestNode → Cond
test_value_by binder scope test = (test_meaning (schema_of binder) binder.text.now (from_of binder) scope test).whole

unfoldable pub test_members_by : Binder → Scope → TestNode → List Cond
test_members_by binder scope test = (test_meaning (schema_of binder) binder.text.now (from_of binder) scope test).members

-- what a condition of the query text means: a condition, and its members
unfoldable pub value_by : Binder → Scope → CondNode → Cond
value_by binder scope condition = (meaning (schema_of binder) binder.text.now (from_of binder) scope condition).whole

unfoldable pub members_by : Binder → Scope → CondNode → List Cond
members_by binder scope condition = (meaning (schema_of binder) binder.text.now (from_of binder) scope condition).members

unfoldable pub members_in : Binder → ConditionInScope → List Cond
members_in binder c = members_by binder c.scope c.condition

-- ---- outputs

unfoldable pub out_offences_of : Binder → Scope → OutNode → List ℕ
out_offences_of binder scope out = out_offences (schema_of binder) binder.text.now (from_of binder) scope out

unfoldable pub outs_offences_of : Binder → Scope → OutsNode → List ℕ
outs_offences_of binder scope outs = outs_offences (schema_of binder) binder.text.now (from_of binder) scope outs
