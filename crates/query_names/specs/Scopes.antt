-- The column that a reference names, and the entries that are in scope for each condition.
use Rattle.std.specs.Prelude.{ℕ, ◌+◌, Bool, ◌&&◌, nat_le, nat_lt, if◌then◌else◌, List, [], ◌∷◌, ◌++◌, length, Option, Some, None, option_map, option_and_then, unwrap_or, slice_get, slice_range}
use Rattle.std.specs.List.{filter_map, flat_map}
use Rattle.ll_grammars.specs.declared.lexeme.Lexeme.{Lexeme}
use Rattle.sql_tokens.specs.Words.{name_of}
use Rattle.query_grammar.specs.declared.tree.ColumnNode.{ColumnNode}
use Rattle.query_grammar.specs.declared.tree.CondNode.{CondNode, fold-CondNode}
use Rattle.query_grammar.specs.declared.tree.CondNode.TheOpen.{CondNode-F}
use Rattle.query_grammar.specs.declared.tree.TestNode.{TestNode}
use Rattle.query_grammar.specs.declared.tree.JoinedNode.{JoinedNode}
use Rattle.query_grammar.specs.declared.tree.FromItemNode.{FromItemNode}
use Rattle.query_grammar.specs.declared.tree.QueryNode.{QueryNode}
use Rattle.schema_types.specs.declared.types.Schema.{Schema}
use Rattle.query_names.specs.declared.scope.Entry.{Entry}
use Rattle.query_names.specs.declared.scope.EntryColumn.{EntryColumn}
use Rattle.query_names.specs.declared.scope.Scope.{Scope}
use Rattle.query_types.specs.declared.types.Source.{Source}
use Rattle.schema_types.specs.Names.{index_of_name}
use Rattle.query_names.specs.Names.{column_in, aliases}

-- ---- the column that a reference names (SQL-92 6.4)

abbrev pub numbered : ℕ → List Source → List Entry
numbered number [] = []
numbered number (source ∷ rest) = record { number = number; table = source.table } ∷ numbered (number + 1) rest

-- the entries in scope, with their numbers
unfoldable pub in_scope : List Source → Scope → List Entry
in_scope from scope = numbered scope.first (slice_range from scope.first scope.end)

-- the member of a list with exactly one member
abbrev pub single_member : {A : Type 0} → List A → Option A
single_member [] = None
single_member (one ∷ []) = Some one
single_member (one ∷ other ∷ rest) = None

abbrev pub is_in : Scope → ℕ → Bool
is_in scope number = nat_le scope.first number && nat_lt number scope.end

-- the entry of this number, if it is in scope
abbrev pub entry_at : List Source → Scope → ℕ → Option Entry
entry_at from scope number =
    if is_in scope number then option_map (λ source. record { number = number; table = source.table }) (slice_get from number) else None

-- the entry of this alias, if it is in scope
unfoldable pub entry_named : List Source → Scope → List ℕ → Option Entry
entry_named from scope alias = option_and_then (entry_at from scope) (index_of_name (aliases from) alias)

module _ (schema : Schema) (text : List ℕ) (from : List Source) (scope : Scope) where
  -- a column that is named without an alias: exactly one entry in scope has a table with this column
  unfoldable pub column_without_alias : List ℕ → Option EntryColumn
  column_without_alias name = single_member (filter_map (column_in schema name) (in_scope from scope))

  -- a column that is named with an alias: the column of the alias's entry, if the entry's table has it
  abbrev pub column_of : List ℕ → List ℕ → Option EntryColumn
  column_of alias name = option_and_then (column_in schema name) (entry_named from scope alias)

  abbrev pub resolved : Option Lexeme → Lexeme → Option EntryColumn
  resolved None column = column_without_alias (name_of text column)
  resolved (Some table) column = column_of (name_of text table) (name_of text column)

  -- the column that a reference names, if there is exactly one
  unfoldable pub resolve : ColumnNode → Option EntryColumn
  resolve reference = resolved reference.table reference.column

-- the first token of a reference
abbrev pub head_of : ColumnNode → Lexeme
head_of reference = unwrap_or reference.table reference.column

-- ---- conditions, each with the entries in its scope, and their tests

pub record ConditionInScope : Type 0 where
  pub scope : Scope
  pub condition : CondNode

-- the ON conditions of one item of FROM. The entries from the item's first entry up to the joined entry are in scope
abbrev pub conditions_of_joins : ℕ → ℕ → List JoinedNode → List ConditionInScope
conditions_of_joins first end [] = []
conditions_of_joins first end (join ∷ rest) =
    record { scope = record { first = first; end = end + 1 }; condition = join.on } ∷ conditions_of_joins first (end + 1) rest

abbrev pub on_conditions : ℕ → List FromItemNode → List ConditionInScope
on_conditions first [] = []
on_conditions first (part ∷ rest) = conditions_of_joins first (first + 1) part.joins ++ on_conditions (first + 1 + length part.joins) rest

-- the scope of all entries
abbrev pub whole_scope : List Source → Scope
whole_scope from = record { first = 0; end = length from }

abbrev pub where_condition : List Source → Option CondNode → List ConditionInScope
where_condition from None = []
where_condition from (Some condition) = record { scope = whole_scope from; condition = condition } ∷ []

-- the ON conditions in text order, and then the condition of WHERE
unfoldable pub conditions : List Source → QueryNode → List ConditionInScope
conditions from query = on_conditions 0 query.parts ++ where_condition from query.filter

abbrev pub flattened : List (List TestNode) → List TestNode
flattened lists = flat_map (λ list. list) lists

abbrev pub tests_step : CondNode-F (List TestNode) → List TestNode
tests_step (CondNode-F.And members) = flattened members
tests_step (CondNode-F.Or members) = flattened members
tests_step (CondNode-F.Not member) = member
tests_step (CondNode-F.Test test) = test ∷ []

-- the tests of a condition in text order
abbrev pub tests : CondNode → List TestNode
tests = fold-CondNode (List TestNode) tests_step
