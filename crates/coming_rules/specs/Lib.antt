-- Quiet: the quieted channel. Coming: its run, and the call. Planned: the same by places and calendar. ComingHolds: what is shown of it.
pub mod Quiet
pub mod Coming
pub mod Planned
pub mod ComingHolds
