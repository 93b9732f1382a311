-- Tables in which the declared keys hold. They hold in all tables that were read from files.
use Rattle.std.specs.Prelude.{◌≡◌, ℕ, ◌<◌, true}
use Rattle.std.specs.Ordering.{is_eq}
use Rattle.csv_tables.specs.Values.{value_cmp}
use Rattle.schema_types.specs.declared.types.Schema.{Schema}
use Rattle.query_types.specs.declared.types.Query.{Query}
use Rattle.join_graph.specs.Conjuncts.{equalities_of}
use Rattle.tree_bounds.specs.Columns.{EachNamedColumn}
use Rattle.sql_meaning.specs.Tables.{Tables, row_counts}
use Rattle.level_bounds.specs.Keys.{value_at}
use Rattle.key_carriers.specs.Carriers.{is_declared_key, table_of}

-- no two rows of an entry's table have the same value in the column
abbrev pub HaveUniqueValues : Tables → ℕ → ℕ → Type 0
HaveUniqueValues tables entry column = (row other : ℕ) → row < row_counts tables entry → other < row_counts tables entry
    → is_eq (value_cmp (value_at tables entry column row) (value_at tables entry column other)) ≡ true → row ≡ other

-- if a column that the query's equalities name is by itself a declared key of its table, its values are unique there
abbrev pub DeclaredKeysHold : Schema → Query → Tables → Type 0
DeclaredKeysHold schema query tables =
    EachNamedColumn (λ entry column. is_declared_key schema (table_of query entry) column ≡ true → HaveUniqueValues tables entry column) (equalities_of query)
