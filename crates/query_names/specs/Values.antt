-- The query that a syntax tree means.
use Rattle.std.specs.Prelude.{ℕ, ◌+◌, Bool, true, false, List, [], ◌∷◌, map, Option, Some, None, unwrap_or, slice_get}
use Rattle.std.specs.List.{flat_map}
use Rattle.sql_tokens.specs.Words.{name_of, literal_text_of}
use Rattle.query_grammar.specs.declared.tree.Op.{Op}
use Rattle.query_grammar.specs.declared.tree.Op.TheVariants as op
use Rattle.query_grammar.specs.declared.tree.LiteralNode.{LiteralNode}
use Rattle.query_grammar.specs.declared.tree.LiteralNode.TheVariants as literal
use Rattle.query_grammar.specs.declared.tree.OperandNode.{OperandNode}
use Rattle.query_grammar.specs.declared.tree.OperandNode.TheVariants as operand
use Rattle.query_grammar.specs.declared.tree.TestNode.{TestNode}
use Rattle.query_grammar.specs.declared.tree.TestNode.TheVariants as test
use Rattle.query_grammar.specs.declared.tree.CondNode.{CondNode, fold-CondNode}
use Rattle.query_grammar.specs.declared.tree.CondNode.TheOpen.{CondNode-F}
use Rattle.query_grammar.specs.declared.tree.OutNode.{OutNode}
use Rattle.query_grammar.specs.declared.tree.OutNode.TheVariants as out
use Rattle.query_grammar.specs.declared.tree.OutsNode.{OutsNode}
use Rattle.query_grammar.specs.declared.tree.OutsNode.TheVariants as outs
use Rattle.query_grammar.specs.declared.tree.QueryNode.{QueryNode}
use Rattle.schema_types.specs.declared.types.Column.{Column}
use Rattle.schema_types.specs.declared.types.Table.{Table}
use Rattle.schema_types.specs.declared.types.Schema.{Schema}
use Rattle.query_names.specs.declared.scope.Entry.{Entry}
use Rattle.query_names.specs.declared.scope.EntryColumn.{EntryColumn}
use Rattle.query_names.specs.declared.scope.Scope.{Scope}
use Rattle.query_types.specs.declared.types.ColumnRef.{ColumnRef}
use Rattle.query_types.specs.declared.types.Operand.{Operand}
use Rattle.query_types.specs.declared.types.Operand.TheVariants as value
use Rattle.query_types.specs.declared.types.Cond.{Cond}
use Rattle.query_types.specs.declared.types.Cond.TheVariants as cond
use Rattle.query_types.specs.declared.types.Source.{Source}
use Rattle.query_types.specs.declared.types.Out.{Out}
use Rattle.query_types.specs.declared.types.Query.{Query}
use Rattle.query_names.specs.Names.{entries}
use Rattle.query_names.specs.Scopes.{resolve, entry_named, in_scope, whole_scope, ConditionInScope, conditions}
use Rattle.query_names.specs.Numbers.{number_value}
use Rattle.query_names.specs.Offences.{of_literal}

-- a condition, and its members. An AND has the members of all its operands. Any other condition has itself as its only member
pub record Meaning : Type 0 where
  pub whole : Cond
  pub members : List Cond

abbrev pub meaning_of_one : Cond → Meaning
meaning_of_one c = record { whole = c; members = c ∷ [] }

abbrev pub conditions_of_meanings : List Meaning → List Cond
conditions_of_meanings parts = map (λ part. part.whole) parts

abbrev pub all_of : List Meaning → Meaning
all_of parts = record { whole = cond.And (conditions_of_meanings parts); members = flat_map (λ part. part.members) parts }

abbrev pub negated_where : Bool → Meaning → Meaning
negated_where true m = meaning_of_one (cond.Not m.whole)
negated_where false m = m

-- the OR of these conditions. A single condition stays as it is
abbrev pub any_of : List Cond → Meaning
any_of [] = meaning_of_one (cond.Or [])
any_of (one ∷ []) = meaning_of_one one
any_of (one ∷ other ∷ rest) = meaning_of_one (cond.Or (one ∷ other ∷ rest))

-- the reference to a column that was found. If no column was found, the name is wrong and the query is refused, so the reference is never used
abbrev pub resolved_column : Option EntryColumn → ColumnRef
resolved_column None = record { from = 0; column = 0 }
resolved_column (Some column) = record { from = column.from; column = column.column }

abbrev pub literal_value : List ℕ → LiteralNode → Operand
literal_value text (literal.Number sign digits) = value.Int (number_value text sign digits)
literal_value text (literal.Text token) = value.Text (literal_text_of text token)

module _ (schema : Schema) (text : List ℕ) (from : List Source) (scope : Scope) where
  abbrev pub operand_value : OperandNode → Operand
  operand_value (operand.Column reference) = value.Column (resolved_column (resolve schema text from scope reference))
  operand_value (operand.Literal l) = literal_value text l

  abbrev pub comparison : Op → OperandNode → OperandNode → Cond
  comparison how left right = cond.Compare how (operand_value left) (operand_value right)

  abbrev pub equality : OperandNode → LiteralNode → Cond
  equality left l = comparison op.Eq left (of_literal l)

  -- BETWEEN means the AND of >= and <=, and IN means the OR of equalities. NOT BETWEEN and NOT IN mean the NOT of that AND or OR
  abbrev pub test_meaning : TestNode → Meaning
  test_meaning (test.Compare left how right) = meaning_of_one (comparison how left right)
  test_meaning (test.Between left negated low high) =
      negated_where negated (all_of (meaning_of_one (comparison op.Ge left low) ∷ meaning_of_one (comparison op.Le left high) ∷ []))
  test_meaning (test.In left negated values) = negated_where negated (any_of (map (equality left) values))

  abbrev pub meaning_step : CondNode-F Meaning → Meaning
  meaning_step (CondNode-F.And members) = all_of members
  meaning_step (CondNode-F.Or members) = meaning_of_one (cond.Or (conditions_of_meanings members))
  meaning_step (CondNode-F.Not member) = meaning_of_one (cond.Not member.whole)
  meaning_step (CondNode-F.Test t) = test_meaning t

  -- the meaning of a condition of a query text
  abbrev pub meaning : CondNode → Meaning
  meaning = fold-CondNode Meaning meaning_step

module _ (schema : Schema) (text : List ℕ) (from : List Source) where
  abbrev pub members_in : ConditionInScope → List Cond
  members_in c = (meaning schema text from c.scope c.condition).members

  -- the members of the ON conditions in text order, and then the members of WHERE's condition
  unfoldable pub conjuncts : QueryNode → List Cond
  conjuncts query = flat_map members_in (conditions from query)

-- ---- outputs (SQL-92 7.9)

abbrev pub outs_from : ℕ → ℕ → List Column → List Out
outs_from entry number [] = []
outs_from entry number (column ∷ rest) =
    record { column = record { from = entry; column = number }; name = column.name } ∷ outs_from entry (number + 1) rest

abbrev pub outs_of_table : ℕ → Option Table → List Out
outs_of_table entry None = []
outs_of_table entry (Some table) = outs_from entry 0 table.columns

-- all columns of an entry, in declared order
unfoldable pub outs_of_entry : Schema → Entry → List Out
outs_of_entry schema entry = outs_of_table entry.number (slice_get schema.tables entry.table)

abbrev pub outs_of_found : Schema → Option Entry → List Out
outs_of_found schema None = []
outs_of_found schema (Some entry) = outs_of_entry schema entry

module _ (schema : Schema) (text : List ℕ) (from : List Source) where
  -- the outputs of one item of SELECT: all columns of an alias's entry, or one column. The output's name is the name that is written after
  -- the column, or otherwise the column's name
  abbrev pub outs_of : OutNode → List Out
  outs_of (out.All alias) = outs_of_found schema (entry_named from (whole_scope from) (name_of text alias))
  outs_of (out.Column reference name) =
      record {
        column = resolved_column (resolve schema text from (whole_scope from) reference);
        name = name_of text (unwrap_or name reference.column);
      } ∷ []

  -- the outputs of the whole SELECT list. * means all columns of all entries, in the order of FROM
  abbrev pub selected : OutsNode → List Out
  selected outs.All = flat_map (outs_of_entry schema) (in_scope from (whole_scope from))
  selected (outs.Listed list) = flat_map outs_of list

-- the query that a syntax tree means, if no name and no kind is wrong
unfoldable pub query_of : Schema → List ℕ → QueryNode → Query
query_of schema text query = record {
  from = entries schema text query;
  conjuncts = conjuncts schema text (entries schema text query) query;
  select = selected schema text (entries schema text query) query.outs;
}
