pub mod Roomy
pub mod Few
