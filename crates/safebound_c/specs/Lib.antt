pub mod Status
pub mod Version
pub mod Kinds
