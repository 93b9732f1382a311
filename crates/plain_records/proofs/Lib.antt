pub mod LineFacts
pub mod OffsetFacts
pub mod QuoteFacts
pub mod RecordFacts
