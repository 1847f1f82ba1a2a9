pub mod Renamed
pub mod Relinks
pub mod Writes
pub mod Splitting
