pub mod Statistics
pub mod Asked
pub mod Columns
pub mod ShownCells
pub mod Filters
pub mod PairedRows
pub mod Rests
