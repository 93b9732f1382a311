pub mod Bits
pub mod Given
pub mod Orders
pub mod Trees
pub mod Causes
pub mod Memory
pub use Rattle.safebound_lists.specs.Written
pub use Rattle.safebound_lists.specs.First
