pub mod Members
pub mod SameLists
pub mod Sections
pub mod Exactness
