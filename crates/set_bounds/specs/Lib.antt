pub mod AllSets
pub mod Parts
pub mod Alike
pub mod Cycles
pub mod Neighbours
