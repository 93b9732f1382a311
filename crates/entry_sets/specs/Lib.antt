pub mod Naming
pub mod Sets
