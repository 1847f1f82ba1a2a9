pub mod RuleWords
pub mod Words
pub mod Texts
pub mod NamedWords
pub mod NamedRange
pub mod Script
pub mod Bindings
pub mod WordsLaw
