pub mod Spelled
pub mod Reading
pub mod Gives
pub mod Laws
