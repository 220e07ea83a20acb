pub mod Ones
pub mod Those
pub mod Patterns
