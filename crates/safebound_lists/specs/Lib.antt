pub mod First
pub mod Runs
pub mod Written
pub mod Causes
