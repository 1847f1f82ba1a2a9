pub mod Running
pub mod LegalHistories
pub mod Fronts
pub mod Spellings
