pub mod HexFacts
pub mod ListFacts
pub mod ListWordFacts
pub mod NumberFacts
pub mod RunTexts
pub mod SplitFacts
pub mod TextFacts
