pub mod Call
pub mod CallHistory
pub mod Faults
pub mod Headline
pub mod OutcomeTexts
pub mod Promise
pub mod Texts
