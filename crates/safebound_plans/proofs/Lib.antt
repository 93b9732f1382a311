pub mod Filling
pub mod Costs
pub mod Best
pub mod Numbered
