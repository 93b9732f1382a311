pub mod FrequentLists
pub mod NodeLists
pub mod Columns
pub mod GivenLists
