-- There is only one best tree. Apart from the refusal for too little memory, there is only one refusal that has a cause.
use Rattle.std.proofs.Common.{◌≡◌, ℕ, ◌-◌, ◌^◌, ◌≤◌, List, refl, ap, sym, ◌∙◌, subst, arith, inl, inr}
use Rattle.std.specs.Prelude.{◌⊎◌}
use Rattle.std.proofs.lemmas.Bool.{cases_order}
use Rattle.order_search.specs.declared.refusal.PlanError.{PlanError}
use Rattle.order_search.specs.declared.refusal.PlanError.TheVariants as error
use Rattle.order_search.proofs.OneBest.{none_refused, one_refusal}
use Rattle.bushy_plan.specs.BestTree.{IsTreeBefore, IsBest, IsLeastCost, cost, total}
use Rattle.bushy_plan.specs.Causes.{IsCause}
use Rattle.bushy_plan.specs.PlanTrees.{IsSplit, IsTreeOver, PlanTree, leaf, node, leaf_bits}
use Rattle.bushy_plan.proofs.Splitting.{no_split_of_one, same_power, tree_set}

trees_are_comparable : (set : ℕ) (a b : PlanTree) → IsTreeOver set a → IsTreeOver set b → (a ≡ b) ⊎ (IsTreeBefore a b ⊎ IsTreeBefore b a)
trees_are_comparable set (leaf x) (leaf y) p q = inl (ap leaf (same_power x y (sym p ∙ q)))
trees_are_comparable set (leaf x) (node l r) p q = absurd (no_split_of_one x (leaf_bits l) (leaf_bits r) (subst (λ (k : ℕ). IsSplit k (leaf_bits l) (leaf_bits r)) p q.0))
trees_are_comparable set (node l r) (leaf y) p q = absurd (no_split_of_one y (leaf_bits l) (leaf_bits r) (subst (λ (k : ℕ). IsSplit k (leaf_bits l) (leaf_bits r)) q p.0))
trees_are_comparable set (node l r) (node l' r') p q = elim (cases_order (leaf_bits l) (leaf_bits l')) [
  | inr apart ↦ elim apart [
    | inl below ↦ inr (inl (inl below))
    | inr above ↦ inr (inr (inl above))
  ]
  | inl same ↦ (let right_same : leaf_bits r' ≡ leaf_bits r = omega (arith, tree_set set (node l r) p, tree_set set (node l' r') q, same) in
      elim (trees_are_comparable (leaf_bits l) l l' p.1 (subst (λ (k : ℕ). IsTreeOver k l') (sym same) q.1)) [
        | inr left_apart ↦ elim left_apart [
          | inl before ↦ inr (inl (inr (same, inl before)))
          | inr all_but_first ↦ inr (inr (inr (sym same, inl all_but_first)))
        ]
        | inl left_same ↦ elim (trees_are_comparable (leaf_bits r) r r' p.2 (subst (λ (k : ℕ). IsTreeOver k r') right_same q.2)) [
          | inr right_apart ↦ elim right_apart [
            | inl before ↦ inr (inl (inr (same, inr (left_same, before))))
            | inr all_but_first ↦ inr (inr (inr (sym same, inr (sym left_same, all_but_first))))
          ]
          | inl equal ↦ inl (ap (λ t. node t r) left_same ∙ ap (λ t. node l' t) equal)
        ]
      ])
]

pub one_best : (bounds : List ℕ) (n : ℕ) (a b : PlanTree) → IsBest bounds n a → IsBest bounds n b → a ≡ b
one_best bounds n a b p q =
    let costs : cost bounds b ≡ cost bounds a = omega (arith, p.none_cheaper b q.is_tree, q.none_cheaper a p.is_tree) in
    let totals : total bounds b ≡ total bounds a = omega (arith, p.none_smaller b q.is_tree costs, q.none_smaller a p.is_tree (sym costs)) in
    elim (trees_are_comparable (2 ^ n - 1) a b p.is_tree q.is_tree) [
      | inl same ↦ same
      | inr apart ↦ elim apart [
        | inl before ↦ absurd (q.none_earlier a p.is_tree (sym costs) (sym totals) before)
        | inr all_but_first ↦ absurd (p.none_earlier b q.is_tree costs totals all_but_first)
      ]
    ]

one_least : (bounds : List ℕ) (n a b : ℕ) → IsLeastCost bounds n a → IsLeastCost bounds n b → a ≡ b
one_least bounds n a b p q = omega (arith, p.none_cheaper q.tree q.is_tree, q.none_cheaper p.tree p.is_tree, p.costs, q.costs)

pub accepted : (bounds : List ℕ) (n budget : ℕ) (best : PlanTree) (e : PlanError) → budget ≤ 2 ^ 59 → IsBest bounds n best → cost bounds best ≤ budget → IsCause bounds n budget e → e ≡ error.NoMemory
accepted bounds n budget best e few is_best within cause =
    none_refused (IsLeastCost bounds n) budget (cost bounds best) e few within (λ least is. omega (arith, is.none_cheaper best is_best.is_tree)) cause

pub refused : (bounds : List ℕ) (n budget : ℕ) (e f : PlanError) → IsCause bounds n budget e → IsCause bounds n budget f → (e ≡ error.NoMemory) ⊎ ((f ≡ error.NoMemory) ⊎ (e ≡ f))
refused bounds n budget e f p q = one_refusal (IsLeastCost bounds n) budget e f (one_least bounds n) p q

pub least_of_best : (bounds : List ℕ) (n : ℕ) (best : PlanTree) → IsBest bounds n best → IsLeastCost bounds n (cost bounds best)
least_of_best bounds n best is_best = record {
  tree = best;
  is_tree = is_best.is_tree;
  costs = refl;
  none_cheaper = is_best.none_cheaper;
}
