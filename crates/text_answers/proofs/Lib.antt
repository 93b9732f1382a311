pub mod Tokens
pub mod Spellings
pub mod SchemaAnswers
pub mod SmallSchemas
pub mod SmallQueries
pub mod QueryAnswers
pub mod QueryLimits
