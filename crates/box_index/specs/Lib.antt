pub mod Boxes
pub mod Cells
pub mod LooseGrid
pub mod Walk
pub mod Near
