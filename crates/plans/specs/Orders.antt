-- The join tree of an order. Its right children are leaves: each join has the join before it on the left side, and the next entry of the order on the
-- right side. So the order can be read from its tree.
use Rattle.std.specs.Prelude.{◌≡◌, ℕ, ◌+◌, ◌-◌, ◌==◌, if◌then◌else◌, List, [], ◌∷◌, length, map, max, slice_index}
use Rattle.plans.specs.LeftDeep.{IsPlan}
use Rattle.plans.specs.declared.left_deep.Plan.{Plan}
use Rattle.plans.specs.declared.bushy.BushyPlan.{BushyPlan}
use Rattle.plans.specs.declared.bushy.Join.{Join}

-- the joins that add these entries, one after another, to the node `left`. The first join has the number `own`. `bounds` has the bound of each join,
-- in the order of the entries
abbrev pub joins_along : ℕ → ℕ → List ℕ → List ℕ → List Join
joins_along left own [] bounds = []
joins_along left own (entry ∷ entries) [] = []
joins_along left own (entry ∷ entries) (bound ∷ bounds) =
    record { left = left; right = entry; bound = bound } ∷ joins_along own (own + 1) entries bounds

-- the joins of an order of n entries, with the bounds of its levels. Level 1 is the scan of the first entry, and no join
abbrev pub joins_of_order : ℕ → List ℕ → List ℕ → List Join
joins_of_order n [] levels = []
joins_of_order n (first ∷ others) [] = []
joins_of_order n (first ∷ others) (level ∷ levels) = joins_along first n others levels

-- the node of level k of an order of n entries, for k from 1 on: the leaf of the first entry, or the inner node that joins the first k entries
abbrev pub level_node : ℕ → List ℕ → ℕ → ℕ
level_node n order k = if k == 1 then slice_index order 0 else n + (k - 2)

abbrev pub greatest_bound : List Join → ℕ
greatest_bound [] = 0
greatest_bound (join ∷ joins) = max join.bound (greatest_bound joins)

-- the cost of a tree: the greatest bound of its joins, or the bound of the scan if there is only one entry
abbrev pub cost_of : List ℕ → List Join → ℕ
cost_of scans [] = slice_index scans 0
cost_of scans (join ∷ joins) = greatest_bound (join ∷ joins)

abbrev pub tree_of_order : Plan → BushyPlan
tree_of_order plan =
    let joins = joins_of_order (length plan.scans) plan.order plan.levels in
    record { joins = joins; scans = plan.scans; cost = cost_of plan.scans joins }

-- ---- the order of a tree

-- the first entry of the order whose tree has these joins: the left child of the first join. The order of one entry has no join
abbrev pub first_entry : List Join → ℕ
first_entry [] = 0
first_entry (join ∷ joins) = join.left

-- the order whose tree this is. Each join adds the entry of its right child. Level 1 has the bound of its entry's scan, and each later level that of
-- its join
abbrev pub order_of_tree : BushyPlan → Plan
order_of_tree tree =
    let first = first_entry tree.joins in
    record {
      order = first ∷ map (λ join. join.right) tree.joins;
      scans = tree.scans;
      levels = slice_index tree.scans first ∷ map (λ join. join.bound) tree.joins;
    }

-- the tree is that of an order of n entries
pub record IsOrderTree (n : ℕ) (tree : BushyPlan) : Type 0 where
  pub order : IsPlan n (order_of_tree tree)
  pub its_tree : tree ≡ tree_of_order (order_of_tree tree)
