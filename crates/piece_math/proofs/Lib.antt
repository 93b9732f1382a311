pub mod Expansion
pub mod Falling
pub mod PiecePlaces
pub mod Building
pub mod Walking
pub mod Combining
pub mod Bends
pub mod RunningMinima
pub mod Cutting
pub mod Spreading
pub mod Weighing
pub mod BlockSums
pub mod Grouping
pub mod Composing
pub mod LawInstances
mod FallingRuns
