pub mod TwoTables
pub mod OneTable
pub mod Meaning
pub mod Calls
pub mod TwoCalls
