-- The bound of a tree is at least the number of its choices. The proof goes from the leaves up, by products at classes and compositions at entries.
use Rattle.std.proofs.Common.{◌≡◌, ℕ, ◌≤◌, List, length}
use Rattle.std.specs.List.{AllByRecursion, AllZip}
use Rattle.degree_sequences.specs.Composition.{ChildLists, composed}
use Rattle.degree_sequences.specs.Domination.{DominatesKeys, DominatesWeights}
use Rattle.degree_sequences.specs.Descending.{IsDescending}
use Rattle.degree_sequences.specs.ComparedChildren.{IsChildOf}
use Rattle.degree_sequences.specs.KeyedRows.{ChildKeys, DominatesChild, weight_of_key}
use Rattle.degree_sequences.proofs.ByRank.{IsDescending-rank_product}
use Rattle.degree_sequences.proofs.CompositionDominates.{composed_dominates, root_at_least}
use Rattle.degree_sequences.proofs.ProductDominates.{rank_product_dominates}
use Rattle.degree_sequences.proofs.RowWeights.{IsDescending-composed}
use Rattle.berge_tree.specs.Trees.{Classes, no_class, and_class, Members, one_member, and_member, BergeTree}
use Rattle.tree_bounds.specs.Columns.{EachColumnBelow, EachColumnWithin}
use Rattle.tree_bounds.specs.TreeBounds.{EntryBounds, IsListOf, HasList, TreeHasLists, child_lists, class_list, bound_of_tree}
use Rattle.tree_bounds.specs.Tables.{KeyedTables, Dominates, TreeDominates}
use Rattle.tree_bounds.specs.Counting.{child_keys, choices_for, number_of_choices}

-- ---- the lists of classes and entries are in descending order

member_descends : (rows : ℕ) (g : List ℕ) (children : List ChildLists) → IsListOf rows g → AllByRecursion (IsChildOf rows) children → IsDescending (composed g children)
member_descends rows g children is all = IsDescending-composed g children is.descends (rw is.total all)

mutual
  pub children_descend : (b : EntryBounds) (entry : ℕ) (cs : Classes) → EachColumnBelow (HasList b) entry cs → AllByRecursion (IsChildOf (b.rows entry)) (child_lists b entry cs)
  children_descend b entry no_class h = tt
  children_descend b entry (and_class column members rest) h = (record { class_is_descending = class_descends b members h.1; column_sum = h.0.total }, children_descend b entry rest h.2)

  pub class_descends : (b : EntryBounds) (ms : Members) → EachColumnWithin (HasList b) ms → IsDescending (class_list b ms)
  class_descends b (one_member entry column below) h = member_descends (b.rows entry) (b.list entry column) (child_lists b entry below) h.0 (children_descend b entry below h.1)
  class_descends b (and_member entry column below rest) h =
      IsDescending-rank_product (composed (b.list entry column) (child_lists b entry below)) (class_list b rest)
      (member_descends (b.rows entry) (b.list entry column) (child_lists b entry below) h.0 (children_descend b entry below h.1)) (class_descends b rest h.2)

-- ---- the lists of classes and entries dominate keys

member_dominates : (rows : ℕ) (g keys : List ℕ) (lists : List ChildLists) (children : List ChildKeys) → DominatesKeys g keys → length keys ≡ rows
    → AllZip (DominatesChild rows) lists children → DominatesWeights (composed g lists) (weight_of_key keys children)
member_dominates rows g keys lists children dominates per_row all = composed_dominates g keys lists children dominates (rw per_row all)

module _ (b : EntryBounds) (tables : KeyedTables) where
  mutual
    children_dominate : (entry : ℕ) (cs : Classes) → EachColumnBelow (HasList b) entry cs → EachColumnBelow (Dominates b tables) entry cs
        → AllZip (DominatesChild (tables.rows entry)) (child_lists b entry cs) (child_keys tables entry cs)
    children_dominate entry no_class h d = tt
    children_dominate entry (and_class column members rest) h d = (
      record { column = d.0.keys; class = class_dominates members h.1 d.1; class_is_descending = class_descends b members h.1; key_per_row = d.0.key_per_row },
      children_dominate entry rest h.2 d.2,
    )

    class_dominates : (ms : Members) → EachColumnWithin (HasList b) ms → EachColumnWithin (Dominates b tables) ms → DominatesWeights (class_list b ms) (choices_for tables ms)
    class_dominates (one_member entry column below) h d =
        member_dominates (tables.rows entry) (b.list entry column) (tables.keys entry column) (child_lists b entry below) (child_keys tables entry below)
        d.0.keys d.0.key_per_row (children_dominate entry below h.1 d.1)
    class_dominates (and_member entry column below rest) h d =
        rank_product_dominates (composed (b.list entry column) (child_lists b entry below)) (class_list b rest)
        (weight_of_key (tables.keys entry column) (child_keys tables entry below)) (choices_for tables rest) (class_descends b rest h.2)
        (member_dominates (tables.rows entry) (b.list entry column) (tables.keys entry column) (child_lists b entry below) (child_keys tables entry below)
        d.0.keys d.0.key_per_row (children_dominate entry below h.1 d.1))
        (class_dominates rest h.2 d.2)

  pub number_within : (t : BergeTree) → TreeHasLists b t → TreeDominates b tables t → number_of_choices tables t ≤ bound_of_tree b t
  number_within t h d =
      root_at_least (b.rows t.root) (tables.rows t.root) d.root (child_lists b t.root t.below) (child_keys tables t.root t.below)
      (children_dominate t.root t.below h d.columns)
