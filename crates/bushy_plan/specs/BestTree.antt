-- The best join tree. Every set of entries has a bound, at the number whose bits are the set's entries.
use Rattle.std.specs.Prelude.{◌≡◌, ℕ, ◌+◌, ◌-◌, ◌^◌, ◌<◌, ◌≤◌, ◌⊎◌, max, List, slice_index}
use Rattle.plans.specs.declared.bushy.BushyPlan.{BushyPlan}
use Rattle.plans.specs.declared.bushy.Join.{Join}
use Rattle.bushy_plan.specs.PlanTrees.{PlanTree, leaf, node, IsTreeOver, leaf_bits, joins_from}

-- the greatest bound of an inner node
abbrev pub inner_greatest : List ℕ → PlanTree → ℕ
inner_greatest bounds (leaf entry) = 0
inner_greatest bounds (node left right) =
    max (slice_index bounds (leaf_bits left + leaf_bits right)) (max (inner_greatest bounds left) (inner_greatest bounds right))

-- the sum of the inner nodes' bounds
abbrev pub inner_sum : List ℕ → PlanTree → ℕ
inner_sum bounds (leaf entry) = 0
inner_sum bounds (node left right) = slice_index bounds (leaf_bits left + leaf_bits right) + inner_sum bounds left
    + inner_sum bounds right

-- the cost of a tree over all entries: the greatest bound of its inner nodes. A tree with one leaf costs the leaf's bound
abbrev pub cost : List ℕ → PlanTree → ℕ
cost bounds (leaf entry) = slice_index bounds (2 ^ entry)
cost bounds (node left right) = inner_greatest bounds (node left right)

-- the total of a tree over all entries: the sum of the bounds of its inner nodes. The total of a tree with one leaf is the leaf's bound
abbrev pub total : List ℕ → PlanTree → ℕ
total bounds (leaf entry) = slice_index bounds (2 ^ entry)
total bounds (node left right) = inner_sum bounds (node left right)

-- the order of trees over the same set. The first tree comes before the other if the leaf set of its left subtree has the lower number. If these sets
-- are the same, the left subtrees decide. If the left subtrees are the same too, the right subtrees decide
abbrev pub IsTreeBefore : PlanTree → PlanTree → Type 0
IsTreeBefore (leaf a) other = ⊥
IsTreeBefore (node left right) (leaf b) = ⊥
IsTreeBefore (node left right) (node left' right') =
    (leaf_bits left < leaf_bits left')
    ⊎ ((leaf_bits left ≡ leaf_bits left') × (IsTreeBefore left left' ⊎ ((left ≡ left') × IsTreeBefore right right')))

-- the set of all n entries
abbrev pub full_set : ℕ → ℕ
full_set n = 2 ^ n - 1

-- the tree has the least cost, and the least sum among the trees of this cost. No tree of the same cost and sum comes before it
pub record IsBest (bounds : List ℕ) (n : ℕ) (best : PlanTree) : Type 0 where
  pub is_tree : IsTreeOver (full_set n) best
  pub none_cheaper : (other : PlanTree) → IsTreeOver (full_set n) other → cost bounds best ≤ cost bounds other
  pub none_smaller : (other : PlanTree) → IsTreeOver (full_set n) other → cost bounds other ≡ cost bounds best
      → total bounds best ≤ total bounds other
  pub none_earlier : (other : PlanTree) → IsTreeOver (full_set n) other → cost bounds other ≡ cost bounds best
      → total bounds other ≡ total bounds best → ¬ IsTreeBefore other best

-- `joins` are the joins of the best tree, with the bounds of their sets, and `cheapest` is this tree's cost
pub record AreOfBest (bounds : List ℕ) (n cheapest : ℕ) (joins : List Join) : Type 0 where
  pub tree : PlanTree
  pub is_best : IsBest bounds n tree
  pub are_its : joins ≡ joins_from bounds n tree
  pub is_its : cheapest ≡ cost bounds tree

-- the plan has the joins of the best tree, with their bounds, and this tree's cost
abbrev pub IsBestPlan : List ℕ → ℕ → BushyPlan → Type 0
IsBestPlan bounds n plan = AreOfBest bounds n plan.cost plan.joins

-- some tree has the cost `least`, and no tree has a lower cost
pub record IsLeastCost (bounds : List ℕ) (n least : ℕ) : Type 0 where
  pub tree : PlanTree
  pub is_tree : IsTreeOver (full_set n) tree
  pub costs : cost bounds tree ≡ least
  pub none_cheaper : (other : PlanTree) → IsTreeOver (full_set n) other → least ≤ cost bounds other
