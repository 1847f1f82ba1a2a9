pub mod ReportText
pub mod Lines
pub mod Dump
pub mod Words
pub mod Rows
pub mod Steps
pub mod DumpLaw
