-- The relation between computed bounds (`CarriedBounds`) and the carried row bound and lists.
use Rattle.std.specs.Prelude.{◌≡◌, ℕ, List, map, All, Some}
use Rattle.berge_tree.specs.declared.edges.Edge.{Edge}
use Rattle.query_types.specs.declared.types.Query.{Query}
use Rattle.join_graph.specs.Conjuncts.{equalities_of}
use Rattle.tree_bounds.specs.Columns.{EachNamedColumn}
use Rattle.bound_fold.specs.Lists.{list_of, row_bound_of}
use Rattle.sql_meaning.specs.Tables.{Tables}
use Rattle.key_stats.specs.declared.carried.CarriedBounds.{CarriedBounds}
use Rattle.key_stats.specs.Lists.{carried_list, carried_rows}

-- `c` has the carried row bound of its left entry. For each column of this entry that the query's equalities name, it has the carried list
pub record HasCarriedBounds (query : Query) (tables : Tables) (accuracy : ℕ) (c : CarriedBounds) : Type 0 where
  pub rows : row_bound_of c.lists c.edge.left.entry ≡ Some (carried_rows query tables c.edge)
  pub lists : EachNamedColumn
      (λ entry column. entry ≡ c.edge.left.entry → list_of c.lists entry column ≡ Some (carried_list query tables accuracy c.edge column))
      (equalities_of query)

-- `carried` has the bounds that are carried along each of these equalities, in their order
pub record HaveCarriedBounds (query : Query) (tables : Tables) (accuracy : ℕ) (es : List Edge) (carried : List CarriedBounds) : Type 0 where
  pub edges : map (λ c. c.edge) carried ≡ es
  pub tell : All (HasCarriedBounds query tables accuracy) carried
