pub mod ReadBack
pub mod RecordTexts
pub mod TableRecords
