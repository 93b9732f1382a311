-- The statistics that a file gives for the entries are a `Statistics`. So the laws of planning, which are proved for any bounds, apply to them, and
-- no bound is too low. This crate only has to prove that the lists of a file are in descending order (`Descending`).

pub mod Finding
pub mod Small
pub mod Sums
pub mod Telling
pub mod NeverUnder
pub mod EntryFacts
pub mod Descending
pub mod FromFiles
mod SmallPlans
