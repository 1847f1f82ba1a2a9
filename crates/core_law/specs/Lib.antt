pub mod Reading
pub mod Core
pub mod CoreLaw
