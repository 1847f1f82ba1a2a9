pub mod Plans
pub mod Planned
pub mod Answered
pub mod Drafted
pub mod Edited
pub mod Ready
pub mod Kept
