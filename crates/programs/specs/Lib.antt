pub mod Places
pub mod Program
pub mod Advancing
pub mod Buffering
pub mod Whole
