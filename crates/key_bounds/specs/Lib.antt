pub mod Bounds
pub mod InSets
pub mod Carrying
pub mod TableStats
pub mod Plans
pub mod Examples
