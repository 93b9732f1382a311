pub mod Stages
pub mod SchemaTexts
pub mod QueryTexts
pub mod SmallTexts
