-- The nodes of a join tree, the nodes of an order's levels, and an order for the tests.
use Rattle.std.specs.Prelude.{◌≡◌, ℕ, ◌+◌, ◌*◌, ◌<◌, ◌≤◌, List, [], ◌∷◌, length, take}
use Rattle.std.specs.List.{AllByRecursion}
use Rattle.plans.specs.declared.left_deep.Plan.{Plan}
use Rattle.plans.specs.Examples.{plan_of}
use Rattle.plans.specs.Orders.{level_node}
use Rattle.tree_rows.specs.Nodes.{node_at, Node}

-- there are as many nodes as a join tree over `entries` entries has, and each node is over some of these entries
pub record HasNodes (entries : ℕ) (nodes : List Node) : Type 0 where
  pub all : length nodes + 1 ≡ 2 * entries
  pub within : (node : ℕ) → node < length nodes → AllByRecursion (λ entry. entry < entries) (node_at nodes node).entries

-- for each level k of an order of n entries there is a node, with the first k entries of the order at its leaves
pub record HasLevels (n : ℕ) (order : List ℕ) (nodes : List Node) : Type 0 where
  pub there : (k : ℕ) → 1 ≤ k → k ≤ n → level_node n order k < length nodes
  pub entries : (k : ℕ) → 1 ≤ k → k ≤ n → (node_at nodes (level_node n order k)).entries ≡ take k order

-- the order T, R, S of three entries of three rows each. A level may have all choices
abbrev pub t_r_s : Plan
t_r_s = plan_of (2 ∷ 0 ∷ 1 ∷ []) (3 ∷ 3 ∷ 3 ∷ []) (3 ∷ 9 ∷ 27 ∷ [])
