pub mod Pairs
pub mod Within
