pub mod Orders
pub mod Keys
pub mod Scans
pub mod Equalities
pub mod WholeTables
pub mod Examples
