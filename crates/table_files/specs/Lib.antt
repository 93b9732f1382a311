pub mod Examples
pub mod EntryTables
pub mod Stage
pub mod FileNames
pub mod TableFile
