pub mod DigitCounts
pub mod Growing
pub mod GrowingRuns
