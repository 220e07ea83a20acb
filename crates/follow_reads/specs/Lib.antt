pub mod Recordings
pub mod FreeSlots
