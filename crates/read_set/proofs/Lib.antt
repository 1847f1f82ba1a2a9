pub mod Drafting
pub mod Answering
pub mod Keeping
