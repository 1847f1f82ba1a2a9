pub mod Slabs
pub mod Reach
pub mod Above
pub mod On
pub mod Pieces
pub mod Index
pub mod Held
pub mod Path
