pub mod Chaining
pub mod Listing
pub mod GiverCounts
pub mod Removing
