-- If a set has its row bounds and lists, each tree of each turn has its row bounds and lists. Each list of the set is in descending order and sums to
-- the row bound of its entry.
use Rattle.std.proofs.Common.{ℕ, List, [], ◌∷◌, ◌++◌}
use Rattle.std.specs.Prelude.{IsSome}
use Rattle.std.specs.List.{AllByRecursion}
use Rattle.berge_tree.specs.declared.edges.Edge.{Edge}
use Rattle.berge_tree.specs.Equalities.{places_of}
use Rattle.berge_tree.specs.Rooted.{AreAllTreesOf, IsTreeOf}
use Rattle.entry_sets.specs.Sets.{entries_of_set}
use Rattle.berge_tree.specs.Trees.{BergeTree, entries, entries_of_all}
use Rattle.berge_tree.proofs.Separate.{all_map}
use Rattle.join_graph.specs.Kept.{equalities_within, kept_of}
use Rattle.tree_bounds.specs.TreeBounds.{HasList}
use Rattle.tree_bounds.specs.SetBounds.{SetHasLists}
use Rattle.tree_bounds.proofs.Agreeing.{in_trees, named_in_turn, tree_columns}
use Rattle.bound_fold.specs.declared.lists.EntryLists.{EntryLists}
use Rattle.bound_fold.specs.Lists.{bounds_of, row_bound_of, list_of, TreeHasBounds}
use Rattle.bound_fold.proofs.Folded.{has_list}
use Rattle.bound_fold.specs.Sets.{SetHasBounds}

-- ---- each tree of a turn has its row bounds and lists

module _ (Q : ℕ → Type 0) where
  all_left : (xs ys : List ℕ) → AllByRecursion Q (xs ++ ys) → AllByRecursion Q xs
  all_left [] ys h = tt
  all_left (x ∷ xs) ys h = (h.0, all_left xs ys h.1)

  all_right : (xs ys : List ℕ) → AllByRecursion Q (xs ++ ys) → AllByRecursion Q ys
  all_right [] ys h = h
  all_right (x ∷ xs) ys h = all_right xs ys h.1

module _ (lists : EntryLists) (es : List Edge) (subset turn : ℕ) (h : SetHasBounds lists es subset) where
  abbrev HasRowBound : ℕ → Type 0
  HasRowBound entry = IsSome (row_bound_of lists entry)

  abbrev HasListOfColumn : ℕ → ℕ → Type 0
  HasListOfColumn entry column = IsSome (list_of lists entry column)

  each_tree_has_bounds : (ts : List BergeTree) → AllByRecursion (IsTreeOf (kept_of subset turn es)) ts → AllByRecursion HasRowBound (entries_of_all ts) → AllByRecursion (TreeHasBounds lists) ts
  each_tree_has_bounds [] trees rows = tt
  each_tree_has_bounds (t ∷ ts) trees rows = (
    record {
      rows = all_left HasRowBound (entries t) (entries_of_all ts) rows;
      columns = tree_columns HasListOfColumn (kept_of subset turn es) (named_in_turn HasListOfColumn subset turn es h.columns) t trees.0;
    },
    each_tree_has_bounds ts trees.1 (all_right HasRowBound (entries t) (entries_of_all ts) rows),
  )

  pub turn_has_bounds : (ts : List BergeTree) → AreAllTreesOf (kept_of subset turn es) (entries_of_set subset) ts → AllByRecursion (TreeHasBounds lists) ts
  turn_has_bounds ts all = each_tree_has_bounds ts all.trees (in_trees es subset turn ts all HasRowBound h.rows)

-- ---- the lists of a set are in descending order, and each sums to a row bound

pub set_has_lists : (lists : EntryLists) (es : List Edge) (subset : ℕ) → SetHasBounds lists es subset → SetHasLists (bounds_of lists) es subset
set_has_lists lists es subset h =
    all_map (λ p. IsSome (list_of lists p.entry p.column)) (λ p. HasList (bounds_of lists) p.entry p.column) (λ p. has_list lists p.entry p.column) (places_of (equalities_within subset es)) h.columns
