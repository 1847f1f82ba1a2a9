pub mod Disk
pub mod Standing
pub mod Moments
pub mod Recorded
pub mod Laws
