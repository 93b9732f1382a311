-- How the proofs of this crate go: what was hard, and what closed it.
--
-- - The list `subtrees` has the tree at each inner node. The bounds of `joins_from` and the entries of `with_joins` are each a `map` over
--   this list (`bounds_are`, `joins_are`). So the node with number n + k is one tree, with its entries and its bound, and no later proof
--   has cases of left and right.
-- - The entries of a node are an order of its tree's set: this is `order_of_set` of level_bounds, from `plan_once` of tree_rows and
--   `set_of_leaves`. Then the node's bound isn't too low, by the premise on bounds of sets (`BoundLevels` of planning) at this set. The
--   bound can't be the top bound, since by the law's premise (`BoundsAreWithin`) no bound of the plan is above 4,000,000.
-- - The law is about any bounds and any lists of rows, so lists from a new source need no further law. For statistics the premises are
--   `levels_are_bounded` and `scans_are_bounded` of planning. That no node has too many rows (`node_fits`) doesn't depend on the tables' sizes, so it
--   is true of every answer. Only `IsTreePlanOf`, on which joins rely, needs tables of at most 4,000,000 rows.
-- - If the root is a leaf, `first_level_over` of sql_meaning says that its rows are the listed rows that pass its own conjuncts, or no rows.

pub mod Subtrees
pub mod InnerNodes
pub mod NeverUnder
pub mod ChosenTrees
