pub mod BufferFacts
pub mod CountFacts
pub mod FileFacts
pub mod SinkFacts
pub mod WriteFacts
