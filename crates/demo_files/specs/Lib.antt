pub mod Files
pub mod Shop
pub mod Texts
