pub mod Grown
pub mod Appended
pub mod Cells
pub mod Conditions
pub mod Examples
