pub mod Faults
pub mod Lines
pub mod Plans
pub mod Texts
pub mod TreePlans
pub mod Words
pub mod Memory
