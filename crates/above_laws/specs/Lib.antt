pub mod FirstAbove
pub mod Indexed
pub mod Places
pub mod Faults
pub mod Keeping
