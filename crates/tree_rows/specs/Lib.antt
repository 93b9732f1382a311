pub mod Trees
pub mod Nodes
pub mod Rooms
pub mod ReadableNodes
pub mod Memory
