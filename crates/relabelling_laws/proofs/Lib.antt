pub mod Mapped
pub mod Ordered
pub mod Columns
pub mod RowsMapped
pub mod Dominated
pub mod Rows
