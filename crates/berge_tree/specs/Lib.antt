pub mod Equalities
pub mod Trees
pub mod Boxed
pub mod Rooted
pub mod Walk
pub mod Examples
pub mod Testing
