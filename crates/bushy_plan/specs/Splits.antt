-- The weight of a tree, by the splits of its sets. Only the search uses these definitions; no public contract cites them.
use Rattle.std.specs.Prelude.{◌≡◌, ◌≢◌, ℕ, ◌+◌, ◌-◌, ◌^◌, ◌<◌, ◌≤◌, max, min, List, ◌++◌, length, slice_index, nat_le, if◌then◌else◌}
use Rattle.limits.specs.Profile.{top_bound}
use Rattle.plans.specs.declared.bushy.Join.{Join}
use Rattle.bushy_plan.specs.BestTree.{IsTreeBefore}
use Rattle.bushy_plan.specs.PlanTrees.{PlanTree, leaf, node, IsFirstEntry, IsSplit, IsTreeOver, leaf_bits, joins_from, root_number}
use Rattle.bushy_plan.specs.declared.weight.Weighing.{Weighing}
use Rattle.bushy_plan.specs.declared.weight.Weighing.TheVariants as weight

-- `all_but_first` has the entries of the set except its first entry
pub record IsWithoutFirst (set all_but_first : ℕ) : Type 0 where
  pub first : ℕ
  pub is_first : IsFirstEntry set first
  pub others : all_but_first ≡ set - 2 ^ first

-- the weight of a node, from its bound and the weights of its two sides. With `SumIfBoundsAtMost`, a bound above `most` gives the greatest weight
abbrev pub combined : Weighing → ℕ → ℕ → ℕ → ℕ
combined weight.Greatest bound left right = max bound (max left right)
combined (weight.SumIfBoundsAtMost most) bound left right = if nat_le bound most then (min (bound + left + right) top_bound) else top_bound

-- the weight of a tree, from the bounds of its inner nodes; a leaf weighs nothing
abbrev pub weight_of : Weighing → List ℕ → PlanTree → ℕ
weight_of w bounds (leaf entry) = 0
weight_of w bounds (node left right) = combined w (slice_index bounds (leaf_bits left
    + leaf_bits right)) (weight_of w bounds left) (weight_of w bounds right)

-- some tree over the set has this weight, and no tree over the set is lighter
pub record IsLeastWeight (w : Weighing) (bounds : List ℕ) (set least : ℕ) : Type 0 where
  pub tree : PlanTree
  pub is_tree : IsTreeOver set tree
  pub weighs : weight_of w bounds tree ≡ least
  pub none_lighter : (other : PlanTree) → IsTreeOver set other → least ≤ weight_of w bounds other

-- `table` has the least weight of each set whose number is below `end`. It may have any number for the empty set, over which there is no tree
abbrev pub HasLeastWeights : Weighing → List ℕ → List ℕ → ℕ → Type 0
HasLeastWeights w bounds table end = (set : ℕ) → 0 < set → set < end → IsLeastWeight w bounds set (slice_index table set)

-- the weight of the lightest tree over the set whose root has the right set `right`, by the weights in `table`
abbrev pub weight_through : Weighing → List ℕ → List ℕ → ℕ → ℕ → ℕ
weight_through w bounds table set right = combined w (slice_index bounds set) (slice_index table (set - right)) (slice_index table right)

-- `right` is the right set of a lightest split, and no lightest split has a right set with a greater number. So the left set of this split has the
-- least number
pub record IsFirstLightestSplit (w : Weighing) (bounds table : List ℕ) (set right : ℕ) : Type 0 where
  pub is_split : IsSplit set (set - right) right
  pub lightest : weight_through w bounds table set right ≡ slice_index table set
  pub first : (other : ℕ) → IsSplit set (set - other) other → right < other
      → weight_through w bounds table set other ≢ slice_index table set

-- no tree over the set is lighter than `tree`, and no tree of the same weight comes before `tree`
pub record IsFirstLightest (w : Weighing) (bounds : List ℕ) (set : ℕ) (tree : PlanTree) : Type 0 where
  pub is_tree : IsTreeOver set tree
  pub none_lighter : (other : PlanTree) → IsTreeOver set other → weight_of w bounds tree ≤ weight_of w bounds other
  pub none_earlier : (other : PlanTree) → IsTreeOver set other → weight_of w bounds other ≡ weight_of w bounds tree → ¬ IsTreeBefore other tree

-- the joins of the first of the lightest trees were appended. The root of this tree has the number `root`, and its inner nodes are numbered from
-- `next`
pub record AppendsFirstLightest (w : Weighing) (bounds : List ℕ) (next set : ℕ) (old new : List Join) (root : ℕ) : Type 0 where
  pub tree : PlanTree
  pub is_first : IsFirstLightest w bounds set tree
  pub joins : new ≡ old ++ joins_from bounds (next + length old) tree
  pub number : root ≡ root_number (next + length old) tree
