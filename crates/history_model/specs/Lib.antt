pub mod Spelling
pub mod Legal
pub mod Reads
pub mod Answers
pub mod Run
pub mod Journal
pub mod SpellingLaw
