pub mod Appending
pub mod Lengths
pub mod Loops
pub mod Grammar
pub mod FieldLaws
pub mod EditLaws
pub mod Decoded
