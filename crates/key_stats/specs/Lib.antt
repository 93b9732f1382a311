pub mod Lists
pub mod Carrying
