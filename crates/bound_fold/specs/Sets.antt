-- The row bounds and lists of an `EntryLists` that a set of entries or an equality needs.
use Rattle.std.specs.Prelude.{ℕ, List, IsSome}
use Rattle.std.specs.List.{AllByRecursion}
use Rattle.berge_tree.specs.declared.edges.Edge.{Edge}
use Rattle.entry_sets.specs.Sets.{entries_of_set}
use Rattle.join_graph.specs.Kept.{equalities_within}
use Rattle.tree_bounds.specs.Columns.{EachNamedColumn}
use Rattle.bound_fold.specs.declared.lists.EntryLists.{EntryLists}
use Rattle.bound_fold.specs.Lists.{row_bound_of, list_of}

-- every entry of the set has its row bound, and every column that an equality of the set names has its list
pub record SetHasBounds (lists : EntryLists) (es : List Edge) (subset : ℕ) : Type 0 where
  pub rows : AllByRecursion (λ entry. IsSome (row_bound_of lists entry)) (entries_of_set subset)
  pub columns : EachNamedColumn (λ entry column. IsSome (list_of lists entry column)) (equalities_within subset es)

-- both columns of an equality have their lists
abbrev pub HaveLists : EntryLists → Edge → Type 0
HaveLists lists e = IsSome (list_of lists e.left.entry e.left.column) × IsSome (list_of lists e.right.entry e.right.column)
