pub mod Lists
pub mod Turns
pub mod Ended
pub mod Joining
pub mod Given
pub mod Closing
pub mod Callers
