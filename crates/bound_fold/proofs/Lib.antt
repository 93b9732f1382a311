pub mod SetTrees
pub mod SetBounds
pub mod TestedSets
mod MapInsertions
mod Leaves
mod Below
mod Folded
