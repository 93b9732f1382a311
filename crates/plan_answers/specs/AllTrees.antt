-- The best join tree, by computation: the first tree in the list of all trees that is no worse than any other.
use Rattle.std.specs.Prelude.{ℕ, zero, suc, Bool, false, not, ◌&&◌, ◌||◌, ◌==◌, nat_lt, List, [], ◌∷◌, ◌++◌, map, find, flat_map, unwrap_or}
use Rattle.std.specs.List.{list_all}
use Rattle.bushy_plan.specs.BestTree.{cost, total}
use Rattle.bushy_plan.specs.PlanTrees.{PlanTree, leaf, node, leaf_bits}

-- The trees that arise from a tree where one of its subtrees t becomes `node t (leaf last)`. The whole tree and each leaf are subtrees too
abbrev pub trees_with : ℕ → PlanTree → List PlanTree
trees_with last (leaf entry) = node (leaf entry) (leaf last) ∷ []
trees_with last (node left right) =
    node (node left right) (leaf last)
    ∷ (map (λ tree. node tree right) (trees_with last left) ++ map (λ tree. node left tree) (trees_with last right))

-- every tree over the entries 0 to n - 1 once, up to the exchange of left and right
abbrev pub all_trees : ℕ → List PlanTree
all_trees zero = []
all_trees (suc zero) = leaf 0 ∷ []
all_trees (suc (suc n)) = flat_map (λ tree. trees_with (suc n) tree) (all_trees (suc n))

abbrev pub is_same : PlanTree → PlanTree → Bool
is_same (leaf a) (leaf b) = a == b
is_same (leaf a) (node left right) = false
is_same (node left right) (leaf b) = false
is_same (node left right) (node left' right') = is_same left left' && is_same right right'

-- whether one tree comes before another. The leaf sets of the left subtrees decide first, as numbers, then the left subtrees, then the right ones
abbrev pub is_before : PlanTree → PlanTree → Bool
is_before (leaf a) other = false
is_before (node left right) (leaf b) = false
is_before (node left right) (node left' right') =
    nat_lt (leaf_bits left) (leaf_bits left')
    || ((leaf_bits left == leaf_bits left') && (is_before left left' || (is_same left left' && is_before right right')))

-- whether a tree is no worse than another. The lower cost decides. If the costs are the same, the smaller total decides. If the totals are the same
-- too, the tree is no worse unless the other tree comes before it
abbrev pub is_no_worse : List ℕ → PlanTree → PlanTree → Bool
is_no_worse bounds tree other =
    nat_lt (cost bounds tree) (cost bounds other)
    || ((cost bounds tree == cost bounds other)
    && (nat_lt (total bounds tree) (total bounds other)
    || ((total bounds tree == total bounds other) && not (is_before other tree))))

-- the first tree that is no worse than any other
unfoldable pub best_tree : List ℕ → ℕ → PlanTree
best_tree bounds n = unwrap_or (find (λ tree. list_all (λ other. is_no_worse bounds tree other) (all_trees n)) (all_trees n)) (leaf 0)
