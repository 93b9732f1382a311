pub mod Found
pub mod FileStatistics
pub mod Entries
pub mod Compared
pub mod Bounds
pub mod Examples
