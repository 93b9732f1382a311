pub mod Examples
pub mod LeftDeep
pub mod Orders
pub mod TreeExamples
pub mod TreePlans
