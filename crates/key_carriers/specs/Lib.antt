pub mod Carriers
pub mod Widened
pub mod DeclaredKeys
pub mod Cells
pub mod Examples
