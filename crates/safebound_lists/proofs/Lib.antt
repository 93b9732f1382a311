pub mod Conditions
pub mod Following
pub mod Small
pub mod Writing
