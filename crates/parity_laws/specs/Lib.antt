pub mod Steps
pub mod Ways
pub mod Walks
pub mod Rings
pub mod Cuts
pub mod Shelling
pub mod Coming
