pub mod Border
pub mod Rings
pub mod FaceBorder
pub mod RowBorder
pub mod RingLaw
