pub mod Bytes
pub mod Kept
pub mod Entries
pub mod Plain
