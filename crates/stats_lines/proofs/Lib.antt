pub mod Deciding
pub mod Values
pub mod Grammar
pub mod Next
pub mod Places
pub mod Steps
pub mod Results
