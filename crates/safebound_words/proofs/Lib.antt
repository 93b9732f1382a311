mod NumberFacts
mod PartFacts
pub mod Ranges
pub mod Readings
mod Steps
mod WholeLines
pub mod WordCounts
mod WordKinds
