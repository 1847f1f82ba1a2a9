pub mod Weights
pub mod Near
pub mod Views
pub mod SidesSeen
pub mod ShellsCounted
pub mod Wanted
pub mod DefinitionTelling
