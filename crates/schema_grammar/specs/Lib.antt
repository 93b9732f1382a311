pub mod Grammar
pub mod Readers
pub mod Lexemes
pub mod Examples
