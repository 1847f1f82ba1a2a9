pub mod Walked
pub mod Covered
