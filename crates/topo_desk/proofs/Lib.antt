pub mod SpentIds
pub mod Entering
pub mod Boards
pub mod Laid
pub mod Moments
pub mod Desks
