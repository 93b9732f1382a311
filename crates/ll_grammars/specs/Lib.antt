pub mod Terminals
pub mod Language
pub mod Reading
pub mod Parses
pub mod Rules
pub mod Places
pub mod Preserving
