pub mod Answers
pub mod Choices
pub mod Conditions
pub mod Databases
pub mod Examples
pub mod Levels
pub mod ValueRefs
pub mod Tables
