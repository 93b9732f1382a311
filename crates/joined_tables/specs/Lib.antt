pub mod Tables
pub mod Bounds
