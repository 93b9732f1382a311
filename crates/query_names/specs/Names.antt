-- Tables, columns and FROM entries by name (SQL-92 5.2, 6.3). Two names are equal if their texts are equal after folding.
use Rattle.std.specs.Prelude.{ℕ, Bool, if◌then◌else◌, List, [], ◌∷◌, ◌++◌, map, Option, option_map, option_and_then, unwrap_or, slice_get, is_none, is_some}
use Rattle.std.specs.List.{flat_map}
use Rattle.ll_grammars.specs.declared.lexeme.Lexeme.{Lexeme}
use Rattle.sql_tokens.specs.Words.{name_of}
use Rattle.query_grammar.specs.declared.tree.SourceNode.{SourceNode}
use Rattle.query_grammar.specs.declared.tree.FromItemNode.{FromItemNode}
use Rattle.query_grammar.specs.declared.tree.QueryNode.{QueryNode}
use Rattle.schema_types.specs.declared.types.Table.{Table}
use Rattle.schema_types.specs.declared.types.Schema.{Schema}
use Rattle.schema_types.specs.Names.{index_of_name}
use Rattle.query_names.specs.declared.scope.Entry.{Entry}
use Rattle.query_names.specs.declared.scope.EntryColumn.{EntryColumn}
use Rattle.query_types.specs.declared.types.Source.{Source}

abbrev pub is_among : List (List ℕ) → List ℕ → Bool
is_among names name = is_some (index_of_name names name)

abbrev pub table_names : Schema → List (List ℕ)
table_names schema = map (λ table. table.name) schema.tables

abbrev pub column_names : Table → List (List ℕ)
column_names table = map (λ column. column.name) table.columns

-- the column of this number in the table of an entry
abbrev pub column_at : ℕ → Table → ℕ → Option EntryColumn
column_at from table number =
    option_map (λ column. record { from = from; column = number; kind = column.kind }) (slice_get table.columns number)

abbrev pub column_named : ℕ → Table → List ℕ → Option EntryColumn
column_named from table name = option_and_then (column_at from table) (index_of_name (column_names table) name)

-- the column of this name in an entry's table, if there is one
unfoldable pub column_in : Schema → List ℕ → Entry → Option EntryColumn
column_in schema name entry = option_and_then (λ table. column_named entry.number table name) (slice_get schema.tables entry.table)

-- ---- the FROM entries

-- the sources in text order
abbrev pub sources_of : FromItemNode → List SourceNode
sources_of part = part.first ∷ map (λ join. join.source) part.joins

abbrev pub sources : QueryNode → List SourceNode
sources query = flat_map sources_of query.parts

-- the token that names an entry: the alias if one is written, otherwise the table's name
abbrev pub alias_token : SourceNode → Lexeme
alias_token source = unwrap_or source.alias source.table

module _ (schema : Schema) (text : List ℕ) where
  abbrev pub alias_of : SourceNode → List ℕ
  alias_of source = name_of text (alias_token source)

  abbrev pub table_of : SourceNode → Option ℕ
  table_of source = index_of_name (table_names schema) (name_of text source.table)

  abbrev pub entry_of : SourceNode → Source
  entry_of source = record { table = unwrap_or (table_of source) 0; alias = alias_of source }

  -- the FROM entries, numbered from 0 in text order
  unfoldable pub entries : QueryNode → List Source
  entries query = map entry_of (sources query)

abbrev pub aliases : List Source → List (List ℕ)
aliases from = map (λ source. source.alias) from

-- ---- offences in FROM

-- the offset of a token, if it is wrong
abbrev pub offset_if : Bool → Lexeme → List ℕ
offset_if wrong token = if wrong then token.start ∷ [] else []

module _ (schema : Schema) (text : List ℕ) where
  -- an unknown table, at its name, and then an alias that is equal to an earlier alias
  abbrev pub source_offences : List (List ℕ) → SourceNode → List ℕ
  source_offences earlier source =
      offset_if (is_none (table_of schema text source)) source.table ++ offset_if (is_among earlier (alias_of schema text source)) (alias_token source)

  abbrev pub offences_of_later_sources : List (List ℕ) → List SourceNode → List ℕ
  offences_of_later_sources earlier [] = []
  offences_of_later_sources earlier (source ∷ rest) =
      source_offences earlier source ++ offences_of_later_sources (earlier ++ alias_of schema text source ∷ []) rest

  unfoldable pub from_offences : QueryNode → List ℕ
  from_offences query = offences_of_later_sources [] (sources query)
