pub mod EditKinds
pub mod Bindings
pub mod Lines
pub mod Parting
pub mod Reading
