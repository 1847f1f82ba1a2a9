pub mod Elements
pub mod Features
pub mod Following
pub mod KnownRows
