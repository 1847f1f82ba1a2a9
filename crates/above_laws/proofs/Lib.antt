pub mod FirstLeft
pub mod FirstOver
pub mod Told
pub mod Finding
pub mod SomeFirst
pub mod Placing
pub mod Faultless
pub mod KeptEdges
