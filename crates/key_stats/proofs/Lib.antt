pub mod RowsThere
pub mod CarriedLists
