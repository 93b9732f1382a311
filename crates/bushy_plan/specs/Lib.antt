pub mod BestTree
pub mod Causes
pub mod Examples
pub mod PlanTrees
pub mod Splits
