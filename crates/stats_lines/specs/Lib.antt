pub mod Searches
pub mod LineForms
pub mod NextValues
pub mod Results
