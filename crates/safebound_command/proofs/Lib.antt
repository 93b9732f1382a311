pub mod WithoutName
pub mod Refusing
pub mod SameRooms
pub mod WordFacts
