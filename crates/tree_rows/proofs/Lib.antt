-- The proofs about the rows of a tree plan are in these modules:
--
-- - `NodeFacts`: nodes are made from lists and from inner nodes, and a row of an inner node consists of one row of each of its two children.
-- - `Once`: each entry is at most once among the leaves below a node.
-- - `AllEntries`: the root has all entries, since a join's node has as many as its two children together, and each node is joined once.
-- - `RoomFacts`: limits on the bounds of nodes.
-- - `FewLeaves`: no node has more than `most_entries` entries.
-- - `OrderNodes`: in the tree of an order, the node of a level has the entries and the bound of the level.
-- - `Bytes`: the bytes of a tree are the sum of the bytes of its buffers.
--
-- The proofs rest on three ideas:
--
-- - Nodes are made by one fold over the list of inner nodes (`with_inners`). An inner node reads only nodes before it, so later nodes change
--   nothing (`with_front`), and no definition recurses over a tree. The entries of a plan's nodes are made by the same fold (`with_joins`).
-- - Each node is joined once (`AreDisjoint`): any two nodes that are still to be joined have no entry in common. A step takes two nodes out and
--   puts their union in; counts are sums, so `omega` does the rest.
-- - The recursion of `read_row` is the only one in the code; its measure is the node's number. A row is `with_choice` at the indexes of its entries,
--   so reading a pair is `put_append`.

pub mod AllEntries
pub mod Bytes
pub mod FewBytes
pub mod FewLeaves
pub mod NodeFacts
pub mod Once
pub mod OrderNodes
pub mod RoomFacts
