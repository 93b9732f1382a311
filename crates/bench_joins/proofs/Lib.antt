pub mod FewRows
pub mod TwoTables
