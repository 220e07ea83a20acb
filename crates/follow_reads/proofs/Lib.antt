pub mod LineRoom
pub mod Recordings
pub mod FreeSlots
