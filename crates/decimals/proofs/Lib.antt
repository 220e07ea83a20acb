pub mod Decimals
pub mod Stores
pub mod Puts
pub mod Written
