pub mod RowTests
pub mod IsolatedTests
pub mod Locating
pub mod Listed
