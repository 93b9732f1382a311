-- Conditions on an equality, and on the statistics of its widened table.
use Rattle.std.specs.Prelude.{◌≡◌, ◌==◌, ◌<◌, All, length, map}
use Rattle.std.specs.List.{Contains, IsDistinct, sum}
use Rattle.berge_tree.specs.declared.edges.Edge.{Edge}
use Rattle.query_types.specs.declared.types.Query.{Query}
use Rattle.join_graph.specs.Conjuncts.{equalities_of}
use Rattle.predicate_bounds.specs.declared.columns.QueryStats.{QueryStats}
use Rattle.predicate_bounds.specs.StatsLists.{columns_of, list_in_stats, row_bound_in_stats}
use Rattle.key_carriers.specs.Carriers.{with_exchanged_sides}

-- the equality is an equality of the query, perhaps with its sides exchanged
abbrev pub IsEqualityEitherWay : Query → Edge → Type 0
IsEqualityEitherWay query e = Contains (with_exchanged_sides (equalities_of query)) e

-- the first entry of the statistics has lists of at least one column, and of no column twice. Each list sums to the entry's row bound
pub record ListsSumToRows (stats : QueryStats) : Type 0 where
  pub there : 0 < length stats.entries
  pub some : 0 < length (columns_of stats 0)
  pub apart : IsDistinct ◌==◌ (map (λ joined. joined.column) (columns_of stats 0))
  pub sums : All (λ joined. sum (list_in_stats stats 0 joined.column) ≡ row_bound_in_stats stats 0) (columns_of stats 0)
