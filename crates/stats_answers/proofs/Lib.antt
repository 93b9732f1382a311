pub mod ByteNames
pub mod OneAnswer
pub mod StatsAnswers
pub mod SmallTexts
