pub mod Boxes
pub mod DividedBoxes
