pub mod Segment
pub mod Joined
