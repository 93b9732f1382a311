pub mod Statistics
pub mod Bounds
pub mod Adding
pub mod Examples
