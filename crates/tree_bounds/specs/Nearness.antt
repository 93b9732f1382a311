-- Bounds of entries that are near exact bounds. At accuracy K this means: the bound times K is at most the exact bound times K + 1.
use Rattle.std.specs.Prelude.{ℕ, ◌+◌, ◌*◌, ◌≤◌, List}
use Rattle.std.specs.List.{AllByRecursion}
use Rattle.degree_sequences.specs.ComparedChildren.{SumsAreWithin}
use Rattle.berge_tree.specs.declared.edges.Edge.{Edge}
use Rattle.entry_sets.specs.Sets.{entries_of_set}
use Rattle.berge_tree.specs.Trees.{BergeTree}
use Rattle.join_graph.specs.Kept.{equalities_within}
use Rattle.tree_bounds.specs.Columns.{EachColumn, EachNamedColumn}
use Rattle.tree_bounds.specs.TreeBounds.{EntryBounds}

-- the row bound of an entry is near its exact row bound
abbrev pub RowsAreNear : ℕ → EntryBounds → EntryBounds → ℕ → Type 0
RowsAreNear accuracy b exact entry = accuracy * b.rows entry ≤ (accuracy + 1) * exact.rows entry

-- each running sum of a column's list is near that of the column's exact list
abbrev pub ListIsNear : ℕ → EntryBounds → EntryBounds → ℕ → ℕ → Type 0
ListIsNear accuracy b exact entry column = SumsAreWithin accuracy (accuracy + 1) (b.list entry column) (exact.list entry column)

-- the row bound of the root is near its exact row bound. The list of each column of the tree is near the exact list
pub record TreeIsNear (accuracy : ℕ) (b exact : EntryBounds) (t : BergeTree) : Type 0 where
  pub root : RowsAreNear accuracy b exact t.root
  pub columns : EachColumn (ListIsNear accuracy b exact) t

-- the row bound of each entry of a set is near its exact row bound. The list of each column that the set's equalities name is near the exact list
pub record SetIsNear (accuracy : ℕ) (b exact : EntryBounds) (es : List Edge) (subset : ℕ) : Type 0 where
  pub rows : AllByRecursion (RowsAreNear accuracy b exact) (entries_of_set subset)
  pub columns : EachNamedColumn (ListIsNear accuracy b exact) (equalities_within subset es)
