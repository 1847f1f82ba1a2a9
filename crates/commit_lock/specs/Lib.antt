pub mod History
pub mod Views
pub mod TableRule
pub mod Steps
pub mod Passes
pub mod Beginning
