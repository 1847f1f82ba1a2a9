pub mod Recovered
pub mod Reached
