pub mod ReadFacts
pub mod StatusFacts
