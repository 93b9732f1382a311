-- A condition under which the list of a column may be added.
use Rattle.std.specs.Prelude.{◌≡◌, ◌<◌, length, Some}
use Rattle.std.specs.List.{sum}
use Rattle.berge_tree.specs.declared.edges.Place.{Place}
use Rattle.query_types.specs.declared.types.Query.{Query}
use Rattle.bound_fold.specs.declared.lists.EntryLists.{EntryLists}
use Rattle.bound_fold.specs.Lists.{row_bound_of}
use Rattle.filtered_lists.specs.Lists.{ColumnLists, filtered_list}
use Rattle.predicate_bounds.specs.declared.columns.QueryStats.{QueryStats}
use Rattle.predicate_bounds.specs.StatsLists.{HasLists}

-- the list of column `place` may be added. For some query, the statistics have the column's lists, and its filtered list sums to the entry's row
-- bound
pub record MayAdd (stats : QueryStats) (place : Place) (lists : EntryLists) : Type 0 where
  pub query : Query
  pub known : ColumnLists
  pub entry : place.entry < length stats.entries
  pub tells : HasLists query stats place.entry place.column known
  pub rows : row_bound_of lists place.entry ≡ Some (sum (filtered_list known place.entry query.conjuncts))
