-- The list of all trees has each tree over the entries, and no other trees.
use Rattle.std.proofs.Common.{◌≡◌, ℕ, zero, suc, ◌+◌, ◌-◌, ◌^◌, ◌<◌, map, refl, sym, subst, arith, inl, inr}
use Rattle.std.specs.List.{AllByRecursion as Each}
use Rattle.std.proofs.lemmas.Nat.{pow_pos}
use Rattle.entry_sets.proofs.Bits.{power_of_next}
use Rattle.plan_answers.proofs.AllOrders.{each_append, each_flat, each_map, each_of_flat, each_of_map, each_of_two, each_so}
use Rattle.bushy_plan.specs.BestTree.{full_set}
use Rattle.bushy_plan.specs.PlanTrees.{IsTreeOver, PlanTree, leaf, node}
use Rattle.bushy_plan.proofs.AllTrees.{IsWith, only_last, without_last}
use Rattle.bushy_plan.proofs.SomeBest.{with_over}
use Rattle.plan_answers.specs.AllTrees.{all_trees, trees_with}

-- ---- each tree of the list is a tree over the entries

listed_with : (last : ℕ) (rest : PlanTree) → Each (IsWith last rest) (trees_with last rest)
listed_with last (leaf entry) = (refl, tt)
listed_with last (node left right) = (
  inl refl,
  each_append (IsWith last (node left right)) (map (λ tree. node tree right) (trees_with last left)) (map (λ tree. node left tree) (trees_with last right))
      (each_map (IsWith last (node left right)) (λ tree. node tree right) (trees_with last left)
      (each_so (IsWith last left) (λ tree. IsWith last (node left right) (node tree right)) (λ tree is_with. inr (inl (tree, is_with, refl))) (trees_with last left) (listed_with last left)))
      (each_map (IsWith last (node left right)) (λ tree. node left tree) (trees_with last right)
      (each_so (IsWith last right) (λ tree. IsWith last (node left right) (node left tree)) (λ tree is_with. inr (inr (tree, is_with, refl))) (trees_with last right) (listed_with last right))),
)

pub listed_are_trees : (n : ℕ) → Each (IsTreeOver (full_set n)) (all_trees n)
listed_are_trees zero = tt
listed_are_trees (suc zero) = (refl, tt)
listed_are_trees (suc (suc n)) =
    each_flat (IsTreeOver (full_set (suc (suc n)))) (λ tree. trees_with (suc n) tree) (all_trees (suc n))
    (each_so (IsTreeOver (full_set (suc n))) (λ rest. Each (IsTreeOver (full_set (suc (suc n)))) (trees_with (suc n) rest)) with_last (all_trees (suc n)) (listed_are_trees (suc n)))
  where
    whole : 2 ^ suc n - 1 + 2 ^ suc n ≡ 2 ^ suc (suc n) - 1
    whole = omega (arith, power_of_next (suc n), pow_pos (suc n))

    with_last : (rest : PlanTree) → IsTreeOver (full_set (suc n)) rest → Each (IsTreeOver (full_set (suc (suc n)))) (trees_with (suc n) rest)
    with_last rest over =
        each_so (IsWith (suc n) rest) (IsTreeOver (full_set (suc (suc n))))
        (λ tree is_with. subst (λ (k : ℕ). IsTreeOver k tree) whole (with_over (full_set (suc n)) (suc n) rest tree (omega (arith, pow_pos (suc n))) over is_with))
        (trees_with (suc n) rest) (listed_with (suc n) rest)

-- ---- a property of each tree in the list is a property of each tree over the entries

at_with : (last : ℕ) (Q : PlanTree → Type 0) (rest tree : PlanTree) → IsWith last rest tree → Each Q (trees_with last rest) → Q tree
at_with last Q (leaf entry) tree is_with h = subst Q (sym is_with) h.0
at_with last Q (node left right) tree is_with h = elim is_with [
  | inl root ↦ subst Q (sym root) h.0
  | inr inner ↦ elim inner [
    | inl l ↦ subst Q (sym l.2) (at_with last (λ t. Q (node t right)) left l.0 l.1 (each_of_map Q (λ t. node t right) (trees_with last left) sides.0))
    | inr r ↦ subst Q (sym r.2) (at_with last (λ t. Q (node left t)) right r.0 r.1 (each_of_map Q (λ t. node left t) (trees_with last right) sides.1))
  ]
]
  where
    sides : Each Q (map (λ t. node t right) (trees_with last left)) × Each Q (map (λ t. node left t) (trees_with last right))
    sides = each_of_two Q (map (λ t. node t right) (trees_with last left)) (map (λ t. node left t) (trees_with last right)) h.1

pub at_tree : (n : ℕ) (Q : PlanTree → Type 0) (tree : PlanTree) → 0 < n → Each Q (all_trees n) → IsTreeOver (full_set n) tree → Q tree
at_tree zero Q tree some h is_tree = absurd (omega arith)
at_tree (suc zero) Q tree some h is_tree = subst Q (sym (only_last 0 tree is_tree)) h.0
at_tree (suc (suc n)) Q tree some h is_tree =
    let rest : (rest : PlanTree) × IsTreeOver (full_set (suc n)) rest × IsWith (suc n) rest tree = without_last n tree is_tree in
    at_with (suc n) Q rest.0 tree rest.2
    (at_tree (suc n) (λ t. Each Q (trees_with (suc n) t)) rest.0 (omega arith) (each_of_flat Q (λ t. trees_with (suc n) t) (all_trees (suc n)) h) rest.1)
