pub mod Members
pub mod Descents
pub mod Listing
