-- The proofs about the tree of an order. `OrderTrees`: the tree is a plan, and its right children are leaves. `Building`: its joins are made one
-- after another. `Reading`: the order is read from its tree.
pub mod Building
pub mod OrderTrees
pub mod Reading
