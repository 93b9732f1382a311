pub mod AuditLines
pub mod Placing
pub mod Printing
