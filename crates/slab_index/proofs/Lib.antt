pub mod Order
pub mod Lowest
pub mod Paths
pub mod Least
pub mod Looks
pub mod Placed
pub mod Reach
