pub mod Families
pub mod Scans
pub mod Lists
pub mod Wiring
pub mod Rounds
pub mod SemiJoins
