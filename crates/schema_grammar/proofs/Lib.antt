pub mod Rules
pub mod TableLoop
pub mod ActionLoop
pub mod Kept
pub mod Ends
pub mod SmallTexts
