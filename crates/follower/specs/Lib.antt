pub mod Answered
pub mod Writing
