pub mod AllTrees
pub mod BestOrder
pub mod Bounds
pub mod PlanAnswer
pub mod Promised
pub mod PromisedTrees
pub mod TreeAnswer
