pub mod Offsets
pub mod Plain
