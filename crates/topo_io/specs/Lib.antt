pub mod Causes
pub mod Decimal
pub mod InMemory
pub mod Sinks
pub mod Sources
