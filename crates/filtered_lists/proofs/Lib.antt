pub mod Related
pub mod Trimmed
pub mod Lists
pub mod Ordered
pub mod Passing
pub mod Counting
pub mod Parts
pub mod Worked
