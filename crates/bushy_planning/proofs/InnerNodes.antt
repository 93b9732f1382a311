-- The entries of each inner node of a best tree's plan are an order of a set of entries. The node's bound is the bound of this set.
use Rattle.std.proofs.Common.{◌≡◌, ℕ, zero, suc, ◌+◌, ◌-◌, ◌^◌, ◌<◌, eqb, List, [], ◌∷◌, length, map, get_or, ap, sym, ◌∙◌, subst, arith}
use Rattle.std.specs.List.{AllByRecursion, IsDistinct}
use Rattle.std.proofs.lemmas.List.{get_or-append-add, get_or-map, length-map}
use Rattle.std.proofs.lemmas.Nat.{pow_pos}
use Rattle.limits.specs.Profile.{greatest_entries}
use Rattle.entry_sets.specs.Sets.{entries_of_set, set_of}
use Rattle.level_bounds.specs.Orders.{IsOrderOfSet}
use Rattle.level_bounds.proofs.SetNumbers.{order_of_set}
use Rattle.join_steps.proofs.WholeScans.{weaken_each}
use Rattle.plans.specs.declared.bushy.BushyPlan.{BushyPlan}
use Rattle.plans.specs.declared.bushy.Join.{Join}
use Rattle.plans.specs.TreePlans.{IsTreePlan}
use Rattle.tree_rows.specs.Rooms.{bound_at, bound_in}
use Rattle.tree_rows.specs.Trees.{entries_at, node_entries, singles, with_joins}
use Rattle.tree_rows.proofs.Once.{plan_once, singles_at, singles_length}
use Rattle.bushy_plan.specs.BestTree.{full_set, IsBestPlan}
use Rattle.bushy_plan.specs.PlanTrees.{IsTreeOver, PlanTree, leaf, leaf_bits}
use Rattle.bushy_planning.proofs.Subtrees.{all_trees_over_leaves, bound_of, bounds_are, joins_are, leaves, set_of_leaves, subtrees, with_tree, HaveLeaves, IsTreeOverLeaves}

all_at : (P : PlanTree → Type 0) (trees : List PlanTree) (k : ℕ) (d : PlanTree) → AllByRecursion P trees → k < length trees
    → P (get_or trees k d)
all_at P [] k d all k_in_range = absurd (omega arith)
all_at P (tree ∷ trees) zero d all k_in_range = all.0
all_at P (tree ∷ trees) (suc k) d all k_in_range = all_at P trees k d all.1 (omega arith)

module _ (n : ℕ) (sets : List ℕ) (plan : BushyPlan) (is : IsTreePlan n plan) (best : IsBestPlan sets n plan) where
  all_fits : full_set n < 2 ^ n
  all_fits = omega (arith, pow_pos n)

  is_tree : IsTreeOver (full_set n) best.tree
  is_tree = best.is_best.is_tree

  all_entries : node_entries plan ≡ with_tree (singles n) best.tree
  all_entries =
      ap (λ (m : ℕ). with_joins (singles m) plan.joins) is.scans
      ∙ ap (λ (s : List Join). with_joins (singles n) s) best.are_its
      ∙ joins_are sets n (full_set n) n (singles n) best.tree (singles_length n) have all_fits is_tree
    where
      have : HaveLeaves n (singles n)
      have entry entry_in_range = (omega (arith, entry_in_range, singles_length n), singles_at n entry entry_in_range)

  all_bounds : map (λ (join : Join). join.bound) plan.joins ≡ map (bound_of sets) (subtrees best.tree)
  all_bounds = ap (λ (s : List Join). map (λ (join : Join). join.bound) s) best.are_its ∙ bounds_are sets n best.tree

  one_join_for_each_subtree : length plan.joins ≡ length (subtrees best.tree)
  one_join_for_each_subtree =
      sym (length-map plan.joins (λ (join : Join). join.bound)) ∙ ap (λ (s : List ℕ). length s) all_bounds
      ∙ length-map (subtrees best.tree) (bound_of sets)

  module _ (k : ℕ) (k_in_range : k < length plan.joins) where
    subtree : PlanTree
    subtree = get_or (subtrees best.tree) k (leaf 0)

    is_tree_over_leaves : IsTreeOverLeaves n subtree
    unfolding subtree
    is_tree_over_leaves =
        all_at (IsTreeOverLeaves n) (subtrees best.tree) k (leaf 0)
        (all_trees_over_leaves n (full_set n) best.tree all_fits is_tree) (omega (arith, k_in_range, one_join_for_each_subtree))

    its_entries : entries_at plan (n + k) ≡ leaves subtree
    unfolding subtree
    its_entries =
        let place : n + k ≡ length (singles n) + k = omega (arith, singles_length n) in
        ap (λ (s : List (List ℕ)). get_or s (n + k) []) all_entries
        ∙ ap (λ (i : ℕ). get_or (with_tree (singles n) best.tree) i []) place
        ∙ get_or-append-add (singles n) (map leaves (subtrees best.tree)) k []
        ∙ get_or-map leaves (subtrees best.tree) k (leaf 0) [] (omega (arith, k_in_range, one_join_for_each_subtree))

    pub join_bound : bound_at plan (n + k) ≡ bound_in [] plan.joins k
    join_bound =
        let place : n + k ≡ length plan.scans + k = omega (arith, is.scans) in
        ap (bound_at plan) place ∙ get_or-append-add plan.scans (map (λ (join : Join). join.bound) plan.joins) k 0

    tree_bound : bound_at plan (n + k) ≡ bound_of sets subtree
    unfolding subtree
    tree_bound =
        join_bound
        ∙ ap (λ (s : List ℕ). get_or s k 0) all_bounds
        ∙ get_or-map (bound_of sets) (subtrees best.tree) k (leaf 0) 0 (omega (arith, k_in_range, one_join_for_each_subtree))

    its_set : set_of (entries_at plan (n + k)) ≡ leaf_bits subtree
    its_set = ap set_of its_entries ∙ set_of_leaves subtree

    -- ---- the set of the node's entries, and the node's bound

    pub node_set_fits : set_of (entries_at plan (n + k)) < 2 ^ n
    node_set_fits = subst (λ (s : ℕ). s < 2 ^ n) (sym its_set) is_tree_over_leaves.fits

    pub node_bound : bound_at plan (n + k) ≡ get_or sets (set_of (entries_at plan (n + k))) 0
    node_bound = tree_bound ∙ ap (λ (s : ℕ). get_or sets s 0) (sym its_set)

    pub node_order : IsOrderOfSet (entries_of_set (set_of (entries_at plan (n + k)))) (entries_at plan (n + k))
    node_order =
        let different : IsDistinct eqb (entries_at plan (n + k)) × AllByRecursion (λ e. e < n) (entries_at plan (n + k)) =
        plan_once n plan (n + k) is (omega (arith, k_in_range, is.scans)) in
        order_of_set (entries_at plan (n + k))
        (weaken_each (λ e. e < n) (λ e. e < greatest_entries) (λ e h. omega (arith, h, is.few)) (entries_at plan (n + k)) different.1) different.0
