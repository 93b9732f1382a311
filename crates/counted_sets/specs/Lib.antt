pub mod Sets
pub mod UseChains
pub mod Counts
