pub mod Words
pub mod Tokens
pub mod Lexing
pub mod Pieces
