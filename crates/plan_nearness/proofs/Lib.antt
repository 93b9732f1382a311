-- How the proofs of this crate go: what was hard, and what closed it.
--
-- - Everything follows in one step from planning's law on the bounds of all sets (`near_columns`). The bound of a level or a node is the bound of the
--   set of its entries (`level_bound`, `node_bound`). The set has as many entries as the level's order or the node has (`set_size`), since both have
--   each entry once.
pub mod SetSizes
pub mod SetsNear
pub mod LevelsNear
pub mod NodesNear
