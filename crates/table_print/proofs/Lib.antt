mod Entries
pub mod RowLines
