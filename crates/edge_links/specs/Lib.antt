pub mod Rays
pub mod Links
pub mod LinksLaw
pub mod Unlinks
pub mod UnlinksLaw
