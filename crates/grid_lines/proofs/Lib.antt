pub mod Dividing
pub mod Joining
pub mod Links
pub mod LinesMeeting
pub mod Splitting
pub mod Tested
pub mod Vertices
