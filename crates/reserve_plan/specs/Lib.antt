pub mod Rooms
pub mod Examples
pub mod Memory
