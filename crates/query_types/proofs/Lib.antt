pub mod CondFacts
