pub mod Row
pub mod Weighing
pub mod Answers
