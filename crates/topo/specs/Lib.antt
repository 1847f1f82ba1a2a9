pub mod Copies
pub mod Words
pub mod Views
pub mod Run
pub mod Output
pub mod Running
pub mod Endings
pub mod Statuses
