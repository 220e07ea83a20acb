pub mod Ones
pub mod Patterns
