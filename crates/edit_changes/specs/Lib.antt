pub mod Evidence
pub mod ChangeLaw
pub mod IdsLaw
pub mod VerticesLaw
pub mod PlainLaw
