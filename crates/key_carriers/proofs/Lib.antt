pub mod Ascending
pub mod Carrying
pub mod Finding
pub mod Referring
