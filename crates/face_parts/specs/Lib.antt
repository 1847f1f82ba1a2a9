pub mod Sides
pub mod SidesLaw
pub mod Divided
pub mod DividedFace
pub mod Paths
