-- The best join tree, as a call writes it into the caller's room.
use Rattle.std.specs.Prelude.{ℕ, ◌+◌, ◌≤◌, List, map}
use Rattle.plans.specs.declared.bushy.Join.{Join}
use Rattle.bushy_plan.specs.BestTree.{IsBest, cost}
use Rattle.bushy_plan.specs.PlanTrees.{PlanTree, joins_from}
use Rattle.safebound_lists.specs.Written.{RoomBeginsWith}
use Rattle.safebound_plans.specs.declared.shaping.JoinNode.{JoinNode}
use Rattle.safebound_plans.specs.Given.{MayPlan}
use Rattle.safebound_plans.specs.Bits.{all_in_128_bits}

abbrev pub node_of : Join → JoinNode
node_of join = record { left = join.left; right = join.right; bound = join.bound }

-- The room now begins with the joins of the best tree by the bounds of all sets of `count` + 1 entries. The tree's cost is within the budget
pub record IsBestTree (bounds : List ℕ) (budget : ℕ) (old new : List JoinNode) (count : ℕ) : Type 0 where
  pub given : MayPlan bounds (count + 1) budget
  pub tree : PlanTree
  pub best : IsBest (all_in_128_bits bounds) (count + 1) tree
  pub within : cost (all_in_128_bits bounds) tree ≤ budget
  pub written : RoomBeginsWith (map node_of (joins_from (all_in_128_bits bounds) (count + 1) tree)) old new count
