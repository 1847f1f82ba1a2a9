pub mod Added
pub mod Linked
pub mod Divided
pub mod Closing
pub mod Wedges
pub mod Placing
