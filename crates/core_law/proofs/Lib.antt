pub mod SameContents
pub mod Stamps
pub mod Commits
pub mod CoreRunning
pub mod WholeDrawing
pub mod Unread
