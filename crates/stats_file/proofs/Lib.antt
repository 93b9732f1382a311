pub mod CaseFacts
pub mod GrammarFacts
pub mod RuleFacts
pub mod RunFacts
pub mod TextFacts
pub mod WordFacts
