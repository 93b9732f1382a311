pub mod Values
pub mod Grammar
pub mod Nesting
pub mod Readers
pub mod Lexemes
pub mod Examples
