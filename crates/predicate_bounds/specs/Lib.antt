pub mod Steps
pub mod Runs
pub mod Comparing
pub mod Narrowing
pub mod Added
pub mod ListRuns
pub mod StatsLists
