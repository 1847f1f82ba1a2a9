pub mod Counted
pub mod Location
pub mod Extent
