pub mod Places
pub mod Children
pub mod Slotted
pub mod Capacity
