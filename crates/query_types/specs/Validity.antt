-- The facts about every query that was read over a schema.
use Rattle.std.specs.Prelude.{◌≡◌, ◌<◌, ◌≤◌, Bool, true, false, List, length, All, Some, slice_get}
use Rattle.limits.specs.Profile.{most_conjuncts, most_entries}
use Rattle.schema_types.specs.declared.types.Kind.{Kind}
use Rattle.schema_types.specs.declared.types.Kind.TheVariants as kind
use Rattle.schema_types.specs.declared.types.Column.{Column}
use Rattle.schema_types.specs.declared.types.Table.{Table}
use Rattle.schema_types.specs.declared.types.Schema.{Schema}
use Rattle.query_types.specs.declared.types.ColumnRef.{ColumnRef}
use Rattle.query_types.specs.declared.types.Cond.{Cond}
use Rattle.query_types.specs.declared.types.Source.{Source}
use Rattle.query_types.specs.declared.types.Out.{Out}
use Rattle.query_types.specs.declared.types.Query.{Query}
use Rattle.query_types.specs.Typing.{IsTyped}

-- whether a kind is that of texts, of any length
abbrev pub is_text : Kind → Bool
is_text kind.Int = false
is_text (kind.Text n) = true

-- the FROM entry, its table, and the column in that table exist
pub record FindsColumn (schema : Schema) (from : List Source) (ref : ColumnRef) (column : Column) : Type 0 where
  pub source : Source
  pub entry : slice_get from ref.from ≡ Some source
  pub table : Table
  pub exists : slice_get schema.tables source.table ≡ Some table
  pub declared : slice_get table.columns ref.column ≡ Some column

-- the column exists, and has texts if `text` is true, and numbers if it is false
pub record IsColumnOf (schema : Schema) (from : List Source) (ref : ColumnRef) (text : Bool) : Type 0 where
  pub column : Column
  pub finds : FindsColumn schema from ref column
  pub kind : is_text column.kind ≡ text

-- every comparison in a condition names columns that exist, and its operands are of one kind
abbrev pub IsCondOf : Schema → List Source → Cond → Type 0
IsCondOf schema from cond = IsTyped (IsColumnOf schema from) cond

-- an entry's table exists
abbrev pub IsSourceOf : Schema → Source → Type 0
IsSourceOf schema source = source.table < length schema.tables

-- an output's column exists
pub record IsOutOf (schema : Schema) (from : List Source) (out : Out) : Type 0 where
  pub column : Column
  pub finds : FindsColumn schema from out.column column

-- a query of a schema: it has 1 to 12 FROM entries and at most 256 conjuncts. Every table, entry and column in it exists, and each comparison
-- has two operands of one kind
pub record IsQueryOf (schema : Schema) (query : Query) : Type 0 where
  pub has_entries : 0 < length query.from
  pub entries_within_limit : length query.from ≤ most_entries
  pub conjuncts_within_limit : length query.conjuncts ≤ most_conjuncts
  pub sources : All (IsSourceOf schema) query.from
  pub conjuncts : All (IsCondOf schema query.from) query.conjuncts
  pub outs : All (IsOutOf schema query.from) query.select
