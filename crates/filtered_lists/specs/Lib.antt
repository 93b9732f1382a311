pub mod Comparisons
pub mod Ranges
pub mod Filters
pub mod Lists
pub mod Standing
pub mod Examples
