pub mod Columns
pub mod Statistics
pub mod Keys
pub mod Cells
pub mod Examples
