pub mod QueryOrRefusal
pub mod Outputs
pub mod Reading
pub mod AfterFrom
pub mod Refusing
pub mod Stages
