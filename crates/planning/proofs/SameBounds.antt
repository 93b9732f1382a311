-- Two bounds of entries give all sets the same bounds if they agree in all row bounds, and in the lists of the columns that equalities name.
use Rattle.std.proofs.Common.{◌≡◌, ℕ, ◌*◌, ◌-◌, ◌^◌, List, [], ◌∷◌, map, refl, ap, ◌∙◌}
use Rattle.std.specs.Prelude.{All}
use Rattle.std.specs.List.{AllByRecursion, range_with_len}
use Rattle.std.proofs.Math.Path.{fun_ext}
use Rattle.degree_sequences.specs.Composition.{ChildLists, composed, root_total}
use Rattle.degree_sequences.specs.ByRank.{rank_product}
use Rattle.degree_sequences.specs.Saturation.{saturated}
use Rattle.berge_tree.specs.declared.edges.Edge.{Edge}
use Rattle.berge_tree.specs.Rooted.{IsTreeOf, AreAllTreesOf}
use Rattle.berge_tree.specs.Trees.{Classes, no_class, and_class, Members, one_member, and_member, BergeTree}
use Rattle.entry_sets.specs.Sets.{entries_of_set}
use Rattle.join_graph.specs.Kept.{kept_of, turn_count}
use Rattle.tree_bounds.specs.Columns.{EachColumn, EachColumnBelow, EachColumnWithin}
use Rattle.tree_bounds.specs.TreeBounds.{EntryBounds, bound_of_tree, bound_of_trees, child_lists, class_list}
use Rattle.tree_bounds.specs.SetBounds.{bound_of_turn, least_to, trees_of}
use Rattle.tree_bounds.proofs.Agreeing.{named_in_turn, tree_columns}
use Rattle.tree_bounds.proofs.Turns.{trees_exist}
use Rattle.bound_fold.proofs.TestedSets.{each_named_column}
use Rattle.set_bounds.specs.AllSets.{bound_in_128_bits, bounds_of_sets}

module _ (b c : EntryBounds) (rows : (entry : ℕ) → b.rows entry ≡ c.rows entry) where
  abbrev IsSame : ℕ → ℕ → Type 0
  IsSame entry column = b.list entry column ≡ c.list entry column

  -- ---- the bound of a tree

  composed_same : (entry column : ℕ) (cs : Classes) → IsSame entry column → child_lists b entry cs ≡ child_lists c entry cs
      → composed (b.list entry column) (child_lists b entry cs) ≡ composed (c.list entry column) (child_lists c entry cs)
  composed_same entry column cs here below = ap (λ (list : List ℕ). composed list (child_lists b entry cs)) here ∙ ap (composed (c.list entry column)) below

  mutual
    below_same : (entry : ℕ) (cs : Classes) → EachColumnBelow IsSame entry cs → child_lists b entry cs ≡ child_lists c entry cs
    below_same entry no_class same = refl
    below_same entry (and_class column members rest) same =
        ap (λ (list : List ℕ). record { column = list; class = class_list b members } ∷ child_lists b entry rest) same.0
        ∙ ap (λ (list : List ℕ). record { column = c.list entry column; class = list } ∷ child_lists b entry rest) (within_same members same.1)
        ∙ ap (λ (children : List ChildLists). record { column = c.list entry column; class = class_list c members } ∷ children) (below_same entry rest same.2)

    within_same : (ms : Members) → EachColumnWithin IsSame ms → class_list b ms ≡ class_list c ms
    within_same (one_member entry column below) same = composed_same entry column below same.0 (below_same entry below same.1)
    within_same (and_member entry column below rest) same =
        ap (λ (list : List ℕ). rank_product list (class_list b rest)) (composed_same entry column below same.0 (below_same entry below same.1))
        ∙ ap (rank_product (composed (c.list entry column) (child_lists c entry below))) (within_same rest same.2)

  tree_same : (t : BergeTree) → EachColumn IsSame t → bound_of_tree b t ≡ bound_of_tree c t
  tree_same t same =
      ap (λ (children : List ChildLists). root_total children (b.rows t.root)) (below_same t.root t.below same)
      ∙ ap (root_total (child_lists c t.root t.below)) (rows t.root)

  trees_same : (es : List Edge) (ts : List BergeTree) → ((t : BergeTree) → IsTreeOf es t → EachColumn IsSame t) → AllByRecursion (IsTreeOf es) ts
      → bound_of_trees b ts ≡ bound_of_trees c ts
  trees_same es [] columns trees = refl
  trees_same es (t ∷ ts) columns trees =
      ap (λ (n : ℕ). n * bound_of_trees b ts) (tree_same t (columns t trees.0)) ∙ ap (λ (n : ℕ). bound_of_tree c t * n) (trees_same es ts columns trees.1)

  -- ---- the bound of a set

  least_same : (f g : ℕ → ℕ) → ((turn : ℕ) → f turn ≡ g turn) → (last : ℕ) → least_to f last ≡ least_to g last
  least_same f g same last = ap (λ (h : ℕ → ℕ). least_to h last) (fun_ext same)

  module _ (es : List Edge) (named : All (λ e. IsSame e.left.entry e.left.column × IsSame e.right.entry e.right.column) es) where
    turn_same : (subset turn : ℕ) → bound_of_turn b es subset turn ≡ bound_of_turn c es subset turn
    turn_same subset turn =
        let kept : List Edge = kept_of subset turn es in
        let all : AreAllTreesOf kept (entries_of_set subset) (trees_of kept subset) = trees_exist es subset turn in
        trees_same kept (trees_of kept subset)
        (tree_columns IsSame kept (named_in_turn IsSame subset turn es (each_named_column IsSame subset es (λ k d k_in_range joins. named k d k_in_range)))) all.trees

    set_same : (subset : ℕ) → bound_in_128_bits b es subset ≡ bound_in_128_bits c es subset
    set_same subset = ap saturated (least_same (bound_of_turn b es subset) (bound_of_turn c es subset) (turn_same subset) (turn_count subset es - 1))

    pub sets_same : (n : ℕ) → bounds_of_sets b es n ≡ bounds_of_sets c es n
    sets_same n = ap (λ (told : ℕ → ℕ). map told (range_with_len 0 (2 ^ n))) (fun_ext set_same)
