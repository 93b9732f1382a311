pub mod Kept
pub mod Names
pub mod Conjuncts
pub mod Naming
pub mod Examples
