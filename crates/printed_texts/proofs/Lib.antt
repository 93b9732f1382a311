pub mod ErrorLines
pub mod PlanLines
pub mod Records
