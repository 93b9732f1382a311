-- A test that computes whether one tree is no worse than another. It proves the small examples of best trees.
use Rattle.std.proofs.Common.{◌≡◌, ℕ, ◌<◌, Bool, true, false, eqb, cond, List, refl, subst, eq-eqb, arith, inl, inr}
use Rattle.std.specs.Prelude.{◌⊎◌}
use Rattle.order_search.proofs.Tested.{both_true, first_test, first_from_test}
use Rattle.bushy_plan.specs.BestTree.{IsTreeBefore, IsBest, full_set, cost, total}
use Rattle.bushy_plan.specs.PlanTrees.{IsTreeOver, PlanTree, leaf, node, leaf_bits}
use Rattle.bushy_plan.proofs.AllTrees.{at_tree, each_tree}

-- ---- the definition of the test

abbrev pub same_tree : PlanTree → PlanTree → Bool
same_tree (leaf a) (leaf b) = eqb a b
same_tree (leaf a) (node left right) = false
same_tree (node left right) (leaf b) = false
same_tree (node left right) (node left' right') = cond (same_tree left left') (same_tree right right') false

same_itself : (tree : PlanTree) → same_tree tree tree ≡ true
same_itself (leaf entry) = eq-eqb entry entry refl
same_itself (node left right) = rw (same_itself left) (same_itself right)

-- false if the first tree comes before the second, otherwise true
abbrev pub not_before : PlanTree → PlanTree → Bool
not_before (leaf a) other = true
not_before (node left right) (leaf b) = true
not_before (node left right) (node left' right') =
    first_test (leaf_bits left') (leaf_bits left) (cond (not_before left left') (cond (same_tree left left') (not_before right right') true) false)

not_before_from_test : (a b : PlanTree) → not_before a b ≡ true → ¬ IsTreeBefore a b
not_before_from_test (leaf x) b h before = before
not_before_from_test (node left right) (leaf y) h before = before
not_before_from_test (node left right) (node left' right') h before = elim (first_from_test (leaf_bits left') (leaf_bits left) _ h) [
  | inl less ↦ elim before [
    | inl above ↦ omega (arith, less, above)
    | inr here ↦ omega (arith, less, here.0)
  ]
  | inr same ↦ (let parts : (not_before left left' ≡ true) × (cond (same_tree left left') (not_before right right') true ≡ true) =
      both_true (not_before left left') (cond (same_tree left left') (not_before right right') true) same.1 in
      elim before [
        | inl above ↦ omega (arith, same.0, above)
        | inr here ↦ elim here.1 [
          | inl left_before ↦ not_before_from_test left left' parts.0 left_before
          | inr right_here ↦ not_before_from_test right right' (behind_same left left' (not_before right right') right_here.0 parts.1) right_here.1
        ]
      ])
]
  where
    behind_same : (a b : PlanTree) (rest : Bool) → a ≡ b → cond (same_tree a b) rest true ≡ true → rest ≡ true
    behind_same a b rest same h =
        let is_same : same_tree a b ≡ true = subst (λ (t : PlanTree). same_tree a t ≡ true) same (same_itself a) in
        rw is_same at h

abbrev pub no_worse : List ℕ → PlanTree → PlanTree → Bool
no_worse bounds a b = first_test (cost bounds a) (cost bounds b) (first_test (total bounds a) (total bounds b) (not_before b a))

pub best_by_test : (bounds : List ℕ) (n : ℕ) (best : PlanTree) → 0 < n → IsTreeOver (full_set n) best → each_tree n (λ other. no_worse bounds best other) ≡ true → IsBest bounds n best
best_by_test bounds n best some is_tree tested = record {
  is_tree = is_tree;
  none_cheaper = λ other over. elim (told other over) [
    | inl below ↦ omega arith
    | inr same ↦ omega (arith, same.0)
  ];
  none_smaller = λ other over same. elim (then_total other over same) [
    | inl below ↦ omega arith
    | inr equal ↦ omega (arith, equal.0)
  ];
  none_earlier = λ other over same equal. elim (then_total other over same) [
    | inl below ↦ absurd (omega (arith, below, equal))
    | inr also ↦ not_before_from_test other best also.1
  ];
}
  where
    told : (other : PlanTree) → IsTreeOver (full_set n) other → (cost bounds best < cost bounds other) ⊎ ((cost bounds best ≡ cost bounds other) × (first_test (total bounds best) (total bounds other) (not_before other best) ≡ true))
    told other over = first_from_test (cost bounds best) (cost bounds other) _ (at_tree n (λ (t : PlanTree). no_worse bounds best t) other some tested over)

    then_total : (other : PlanTree) → IsTreeOver (full_set n) other → cost bounds other ≡ cost bounds best → (total bounds best < total bounds other) ⊎ ((total bounds best ≡ total bounds other) × (not_before other best ≡ true))
    then_total other over same = elim (told other over) [
      | inl below ↦ absurd (omega (arith, below, same))
      | inr here ↦ first_from_test (total bounds best) (total bounds other) (not_before other best) here.1
    ]
