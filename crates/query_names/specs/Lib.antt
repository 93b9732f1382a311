pub mod Names
pub mod Scopes
pub mod Offences
pub mod Numbers
pub mod Values
pub mod Answers
pub mod Binding
pub mod Checking
