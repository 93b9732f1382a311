pub mod Holding
pub mod Sets
pub mod Levels
pub mod SmallPair
pub mod Near
