pub mod Appends
pub mod Printed
pub mod FileCalls
pub mod FilePlans
pub mod OtherQueries
