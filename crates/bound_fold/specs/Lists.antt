-- The row bounds and lists of an `EntryLists`, also in the form of `EntryBounds`. Whether an `EntryLists` has those that a tree needs.
use Rattle.std.specs.Prelude.{ℕ, List, [], Option, unwrap_or, IsSome}
use Rattle.std.specs.List.{AllByRecursion}
use Rattle.berge_tree.specs.Trees.{BergeTree, entries}
use Rattle.tree_bounds.specs.Columns.{EachColumn}
use Rattle.tree_bounds.specs.TreeBounds.{EntryBounds}
use Rattle.bound_fold.specs.declared.lists.EntryLists.{EntryLists}
use Rattle.bound_fold.specs.BoundMaps.{row_bound_in, list_in}

-- the row bound of an entry, if it was set
abbrev pub row_bound_of : EntryLists → ℕ → Option ℕ
row_bound_of lists entry = row_bound_in lists.rows entry

-- the list of a column, if it was added
abbrev pub list_of : EntryLists → ℕ → ℕ → Option (List ℕ)
list_of lists entry column = list_in lists.lists entry column

-- the row bounds and lists as `EntryBounds`: a row bound that was not set is 0, and a list that was not added is empty
abbrev pub bounds_of : EntryLists → EntryBounds
bounds_of lists = record {
  rows = λ entry. unwrap_or (row_bound_of lists entry) 0;
  list = λ entry column. unwrap_or
      (list_of lists entry column) [];
}

-- every entry of a tree has its row bound, and every column of the tree has its list
pub record TreeHasBounds (lists : EntryLists) (t : BergeTree) : Type 0 where
  pub rows : AllByRecursion (λ entry. IsSome (row_bound_of lists entry)) (entries t)
  pub columns : EachColumn (λ entry column. IsSome (list_of lists entry column)) t
