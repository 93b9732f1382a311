pub mod Pairs
pub mod Nodes
pub mod Stats
pub mod Promises
pub mod Examples
