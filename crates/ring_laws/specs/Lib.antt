pub mod Ringed
pub mod Parts
