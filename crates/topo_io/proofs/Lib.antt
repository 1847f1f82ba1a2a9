pub mod Consumed
pub mod Decimals
pub mod Written
