-- The bound of a set is computed tree by tree and turn by turn. The lemmas are about the steps of both loops.
use Rattle.std.proofs.Common.{◌≡◌, ◌⊎◌, ℕ, zero, suc, ◌+◌, ◌-◌, ◌*◌, ◌^◌, ◌<◌, ◌≤◌, min, List, [], ◌∷◌, ◌++◌, get_or, length, map, take, refl, ap, sym, ◌∙◌, subst, arith, add-one}
use Rattle.std.specs.Prelude.{Result, Ok, Err, IfOk}
use Rattle.std.specs.List.{AllByRecursion}
use Rattle.std.proofs.Math.Seq.{take-length}
use Rattle.degree_sequences.specs.Saturation.{saturated}
use Rattle.berge_tree.specs.declared.edges.Edge.{Edge}
use Rattle.berge_tree.specs.declared.tree.Tree.{Tree}
use Rattle.berge_tree.specs.Boxed.{tree_of}
use Rattle.berge_tree.specs.Rooted.{AreAllTreesOf}
use Rattle.entry_sets.specs.Sets.{entries_of_set}
use Rattle.berge_tree.specs.Trees.{BergeTree}
use Rattle.join_graph.specs.Kept.{equalities_within, kept_of, turn_count}
use Rattle.tree_bounds.specs.SetBounds.{bound_of_set, bound_of_turn, least_to}
use Rattle.tree_bounds.specs.Tables.{KeyedTables, ChoicesAreDifferent, Satisfies, SetDominates}
use Rattle.tree_bounds.specs.TreeBounds.{EntryBounds, bound_of_tree, bound_of_trees}
use Rattle.tree_bounds.proofs.Saturated.{saturated-min, saturated-trees_more, within_saturated}
use Rattle.tree_bounds.proofs.Turns.{trees_are, within_set}
use Rattle.bound_fold.specs.declared.lists.EntryLists.{EntryLists}
use Rattle.bound_fold.specs.Lists.{bounds_of, TreeHasBounds}
use Rattle.bound_fold.specs.Sets.{SetHasBounds}
use Rattle.bound_fold.proofs.SetTrees.{set_has_lists, turn_has_bounds}

-- ---- the loop over trees, which multiplies their bounds

module _ (lists : EntryLists) where
  pub tree_has_bounds : (trees : List Tree) (i : ℕ) (d : Tree) → AllByRecursion (TreeHasBounds lists) (map tree_of trees) → i < length trees → TreeHasBounds lists (tree_of (get_or trees i d))
  tree_has_bounds [] i d h l = absurd (omega arith)
  tree_has_bounds (tree ∷ trees) zero d h l = h.0
  tree_has_bounds (tree ∷ trees) (suc i) d h l = tree_has_bounds trees i d h.1 (omega arith)

take_one_more : (trees : List Tree) (i : ℕ) (d : Tree) → i < length trees → map tree_of (take (suc i) trees) ≡ map tree_of (take i trees) ++ tree_of (get_or trees i d) ∷ []
take_one_more [] i d h = absurd (omega arith)
take_one_more (tree ∷ trees) zero d h = refl
take_one_more (tree ∷ trees) (suc i) d h = ap (λ ts. tree_of tree ∷ ts) (take_one_more trees i d (omega arith))

module _ (b : EntryBounds) where
  pub one_more_tree : (trees : List Tree) (i : ℕ) (tree : Tree) (product n : ℕ) → i < length trees → tree ≡ get_or trees i tree → product ≡ saturated (bound_of_trees b (map tree_of (take i trees)))
      → n ≡ saturated (bound_of_tree b (tree_of tree)) → min (product * n) (2 ^ 128 - 1) ≡ saturated (bound_of_trees b (map tree_of (take (i + 1) trees)))
  one_more_tree trees i tree product n h is before folded =
      let ts : List BergeTree = map tree_of (take i trees) in
      ap saturated (ap (λ m. m * n) before ∙ ap (λ m. saturated (bound_of_trees b ts) * m) folded)
      ∙ saturated-trees_more b ts (tree_of tree)
      ∙ sym (ap (λ us. saturated (bound_of_trees b us)) (ap (λ k. map tree_of (take k trees)) (add-one i) ∙ take_one_more trees i tree h ∙ ap (λ (t : Tree). ts ++ tree_of t ∷ []) (sym is)))

  pub all_trees : (trees : List Tree) (n i : ℕ) → i ≡ length trees → n ≡ saturated (bound_of_trees b (map tree_of (take i trees))) → n ≡ saturated (bound_of_trees b (map tree_of trees))
  all_trees trees n i is before = before ∙ ap (λ (us : List Tree). saturated (bound_of_trees b (map tree_of us))) (ap (λ k. take k trees) is ∙ take-length trees)

-- ---- the bound of one turn

module _ (es : List Edge) (subset turn : ℕ) (kept : List Edge) (is_kept : kept ≡ kept_of subset turn es) (ts : List BergeTree) (r : AreAllTreesOf kept (entries_of_set subset) ts) where
  are_all : AreAllTreesOf (kept_of subset turn es) (entries_of_set subset) ts
  are_all = subst (λ es. AreAllTreesOf es (entries_of_set subset) ts) is_kept r

  pub trees_have_bounds : (lists : EntryLists) → SetHasBounds lists es subset → AllByRecursion (TreeHasBounds lists) ts
  trees_have_bounds lists h = turn_has_bounds lists es subset turn h ts are_all

  pub turn_done : {E : Type 0} (b : EntryBounds) (n : Result ℕ E) → IfOk n (λ n. n ≡ saturated (bound_of_trees b ts)) → IfOk n (λ n. n ≡ saturated (bound_of_turn b es subset turn))
  turn_done b (Ok n) h = h ∙ ap (λ ts. saturated (bound_of_trees b ts)) (trees_are es subset turn ts are_all)
  turn_done b (Err e) h = tt

-- ---- the loop over turns, which takes the least bound

module _ (b : EntryBounds) (es : List Edge) (subset : ℕ) where
  pub one_more_turn : (turn least n : ℕ) → 1 ≤ turn → least ≡ saturated (least_to (bound_of_turn b es subset) (turn - 1))
      → n ≡ saturated (bound_of_turn b es subset turn) → min least n ≡ saturated (least_to (bound_of_turn b es subset) (turn + 1 - 1))
  one_more_turn zero least n some before is = absurd (omega arith)
  one_more_turn (suc k) least n some before is =
      let bounds : ℕ → ℕ = λ j. saturated (least_to (bound_of_turn b es subset) j) in
      let earlier : suc k - 1 ≡ k = omega arith in
      let now : suc k + 1 - 1 ≡ suc k = omega arith in
      ap (λ m. min m n) (before ∙ ap bounds earlier)
      ∙ ap (λ m. min (bounds k) m) is
      ∙ saturated-min (least_to (bound_of_turn b es subset) k) (bound_of_turn b es subset (suc k))
      ∙ sym (ap bounds now)

  pub all_turns : (turn end least : ℕ) → end ≡ turn_count subset es → 1 ≤ turn → (1 ≤ end → turn ≤ end) → end ≤ turn
      → least ≡ saturated (least_to (bound_of_turn b es subset) (turn - 1)) → least ≡ saturated (bound_of_set b es subset)
  all_turns turn end least is some most past before =
      let last : turn - 1 ≡ turn_count subset es - 1 = omega arith in
      before ∙ ap (λ j. saturated (least_to (bound_of_turn b es subset) j)) last

-- ---- the bound of a set is never below the number of choices

pub set_never_under : (lists : EntryLists) (es : List Edge) (subset n : ℕ) → SetHasBounds lists es subset → n ≡ saturated (bound_of_set (bounds_of lists) es subset)
    → (tables : KeyedTables) → SetDominates (bounds_of lists) tables es subset → (choices : List (ℕ → ℕ))
    → AllByRecursion (Satisfies tables (entries_of_set subset) (equalities_within subset es)) choices → ChoicesAreDifferent (entries_of_set subset) choices
    → (length choices ≤ n) ⊎ (n ≡ 2 ^ 128 - 1)
set_never_under lists es subset n h is tables dominates choices satisfy differ =
    let within : length choices ≤ bound_of_set (bounds_of lists) es subset =
    within_set (bounds_of lists) tables es subset (set_has_lists lists es subset h) dominates choices satisfy differ in
    subst (λ m. (length choices ≤ m) ⊎ (m ≡ 2 ^ 128 - 1)) (sym is) (within_saturated (length choices) (bound_of_set (bounds_of lists) es subset) within)
