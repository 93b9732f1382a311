-- The known counts and lists of a query's entries (`Statistics`). What it means that a `QueryStats` has them, and that they bound tables.
use Rattle.std.specs.Prelude.{◌≡◌, ℕ, ◌<◌, ◌≤◌, ◌^◌, [], length}
use Rattle.degree_sequences.specs.Compression.{compressed}
use Rattle.degree_sequences.specs.Degrees.{degree_list}
use Rattle.query_types.specs.declared.types.Query.{Query}
use Rattle.join_graph.specs.Conjuncts.{equalities_of}
use Rattle.tree_bounds.specs.Columns.{EachNamedColumn}
use Rattle.sql_meaning.specs.Tables.{Tables, row_counts}
use Rattle.level_bounds.specs.Keys.{Keys}
use Rattle.level_bounds.specs.WholeTables.{keys_of}
use Rattle.filtered_lists.specs.Filters.{own_conjuncts}
use Rattle.filtered_lists.specs.Lists.{ColumnLists, RowCounts}
use Rattle.filtered_lists.specs.Standing.{CountsStandFor, ListsStandFor, SumTo}
use Rattle.predicate_bounds.specs.declared.columns.QueryStats.{QueryStats}
use Rattle.predicate_bounds.specs.StatsLists.{HasLists, HasRowLists}

-- row counts for each FROM entry, and lists for each of its columns
pub record Statistics : Type 0 where
  pub counts : ℕ → RowCounts
  pub lists : ℕ → ℕ → ColumnLists

-- ---- a `QueryStats` that has the known counts and lists

-- `stats` has the lists of some column of the entry; the entry's row bound is computed from them. The sum of each list is the entry's row count for
-- the same filter. The count of all rows is at most 2^32
pub record HasRowBoundLists (query : Query) (stats : QueryStats) (known : Statistics) (entry : ℕ) : Type 0 where
  pub column : ℕ
  pub lists : HasRowLists query stats entry (known.lists entry column)
  pub sums : SumTo (known.lists entry column) (known.counts entry)
  pub small : (known.counts entry).whole ≤ 2 ^ 32

-- `stats` has the lists of a column of an entry, and the sum of each list is the entry's row count for the same filter
pub record HasColumnLists (query : Query) (stats : QueryStats) (known : Statistics) (entry column : ℕ) : Type 0 where
  pub lists : HasLists query stats entry column (known.lists entry column)
  pub sums : SumTo (known.lists entry column) (known.counts entry)

-- `stats` has the known counts and lists of all FROM entries, and of all columns that an equality joins
pub record HasStatistics (query : Query) (stats : QueryStats) (known : Statistics) : Type 0 where
  pub one_each : length stats.entries ≡ length query.from
  pub entries : (entry : ℕ) → entry < length query.from → HasRowBoundLists query stats known entry
  pub columns : EachNamedColumn (HasColumnLists query stats known) (equalities_of query)

-- `stats` has the counts and lists of some `Statistics`, the field `known`
pub record HasSomeStatistics (query : Query) (stats : QueryStats) : Type 0 where
  pub known : Statistics
  pub tells : HasStatistics query stats known

-- ---- known counts and lists that bound tables

-- the known counts bound the rows of each entry's table, and the known lists dominate the keys of each column that an equality joins
pub record StandFor (query : Query) (known : Statistics) (tables : Tables) (key : Keys) : Type 0 where
  pub counts : (entry : ℕ) → entry < length query.from → CountsStandFor (known.counts entry) tables entry
  pub lists : EachNamedColumn
      (λ entry column. ListsStandFor (known.lists entry column) tables entry (key entry column)) (equalities_of query)

-- ---- statistics of whole columns, without filters

-- no entry has own conjuncts. The statistics have each table's number of rows. For each column that an equality joins they have the degree list,
-- compressed at this accuracy
pub record AreOfWholeTables (query : Query) (known : Statistics) (tables : Tables) (key : Keys) (accuracy : ℕ) : Type 0 where
  pub unfiltered : (entry : ℕ) → own_conjuncts entry query.conjuncts ≡ []
  pub counts : (entry : ℕ) → entry < length query.from → (known.counts entry).whole ≡ row_counts tables entry
  pub lists : EachNamedColumn (λ entry column. (known.lists entry column).whole
      ≡ compressed accuracy (degree_list (keys_of tables key entry column)))
      (equalities_of query)
