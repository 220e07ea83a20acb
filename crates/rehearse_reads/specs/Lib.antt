pub mod Bounds
pub mod Rehearsed
