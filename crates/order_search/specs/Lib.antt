pub mod Causes
pub mod Examples
pub mod Orders
pub mod Ways
