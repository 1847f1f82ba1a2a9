pub mod Darts
pub mod Kinds
pub mod Names
pub mod Point
pub mod RationalPoint
pub mod ScriptLines
pub mod Stored
pub mod Within
