pub mod Sides
pub mod MergedSides
pub mod Last
pub mod Merge
pub mod Merging
