-- If two `EntryBounds` have the same row bounds and lists for a set, the set has the same bound by both.
use Rattle.std.proofs.Common.{◌≡◌, ℕ, ◌-◌, List, [], ◌∷◌, refl, ap}
use Rattle.std.specs.List.{AllByRecursion}
use Rattle.std.proofs.Math.Path.{fun_ext}
use Rattle.berge_tree.specs.declared.edges.Edge.{Edge}
use Rattle.berge_tree.specs.Rooted.{IsTreeOf}
use Rattle.berge_tree.specs.Trees.{Classes, no_class, and_class, Members, one_member, and_member, BergeTree}
use Rattle.entry_sets.specs.Sets.{entries_of_set}
use Rattle.join_graph.specs.Kept.{equalities_within, kept_of, turn_count}
use Rattle.tree_bounds.specs.Columns.{EachColumn, EachColumnBelow, EachColumnWithin, EachNamedColumn}
use Rattle.tree_bounds.specs.SetBounds.{bound_of_set, bound_of_turn, least_to, trees_of}
use Rattle.tree_bounds.specs.TreeBounds.{EntryBounds, bound_of_trees, child_lists, class_list}
use Rattle.tree_bounds.proofs.Agreeing.{at_roots, for_trees, in_trees, named_in_turn, tree_columns}
use Rattle.tree_bounds.proofs.Turns.{trees_exist}

module _ (b c : EntryBounds) where
  abbrev pub HaveOneList : ℕ → ℕ → Type 0
  HaveOneList entry column = b.list entry column ≡ c.list entry column

  abbrev pub HaveOneBound : ℕ → Type 0
  HaveOneBound entry = b.rows entry ≡ c.rows entry

  mutual
    same_children : (entry : ℕ) (cs : Classes) → EachColumnBelow HaveOneList entry cs → child_lists b entry cs ≡ child_lists c entry cs
    same_children entry no_class h = refl
    same_children entry (and_class column members rest) h = rw (h.0, same_class members h.1, same_children entry rest h.2) refl

    same_class : (ms : Members) → EachColumnWithin HaveOneList ms → class_list b ms ≡ class_list c ms
    same_class (one_member entry column below) h = rw (h.0, same_children entry below h.1) refl
    same_class (and_member entry column below rest) h = rw (h.0, same_children entry below h.1, same_class rest h.2) refl

  same_trees : (ts : List BergeTree) → AllByRecursion (EachColumn HaveOneList) ts → AllByRecursion (λ t. HaveOneBound t.root) ts → bound_of_trees b ts ≡ bound_of_trees c ts
  same_trees [] lists rows = refl
  same_trees (t ∷ ts) lists rows = rw (rows.0, same_children t.root t.below lists.0, same_trees ts lists.1 rows.1) refl

  module _ (es : List Edge) (subset : ℕ) (rows : AllByRecursion HaveOneBound (entries_of_set subset)) (lists : EachNamedColumn HaveOneList (equalities_within subset es)) where
    same_turn : (turn : ℕ) → bound_of_turn b es subset turn ≡ bound_of_turn c es subset turn
    same_turn turn =
        same_trees (trees_of (kept_of subset turn es) subset)
        (for_trees (IsTreeOf (kept_of subset turn es)) (EachColumn HaveOneList)
        (tree_columns HaveOneList (kept_of subset turn es) (named_in_turn HaveOneList subset turn es lists))
        (trees_of (kept_of subset turn es) subset) (trees_exist es subset turn).trees)
        (at_roots HaveOneBound (trees_of (kept_of subset turn es) subset)
        (in_trees es subset turn (trees_of (kept_of subset turn es) subset) (trees_exist es subset turn) HaveOneBound rows))

    pub same_bound : bound_of_set b es subset ≡ bound_of_set c es subset
    same_bound = ap (λ (f : ℕ → ℕ). least_to f (turn_count subset es - 1)) (fun_ext same_turn)
