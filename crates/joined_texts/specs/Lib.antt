pub mod JoinedRows
pub mod Printed
