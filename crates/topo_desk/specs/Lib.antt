pub mod Verdict
pub mod Boarded
pub mod Beyond
pub mod Prepared
pub mod Left
pub mod Doubt
