pub mod Copies
pub mod FallingCounts
pub mod OneMoreKey
pub mod RunLengths
pub mod SameDegrees
pub mod TallyFacts
