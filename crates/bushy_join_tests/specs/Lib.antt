pub mod SmallQueries
pub mod Examples
