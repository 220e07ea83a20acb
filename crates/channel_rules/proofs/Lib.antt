-- Demand 3, from each call of the plain channel beside the shared table (crate `rules`) to every list of calls on records and wire.
pub mod Searching
pub mod ListStep
pub mod Histories
pub mod Mixing
pub mod Requested
pub mod OwnersMean
pub mod Calendared
pub mod EmbodySlot
pub mod Embody
pub mod SoundTests
pub mod SoundLists
pub mod SoundMeans
pub mod Gathering
pub mod EmbodyCalendars
pub mod EmbodyWrites
pub mod EmbodyCalls
pub mod Sounding
pub mod SoundKept
pub mod Starts
pub mod Following
pub mod Undelivered
pub mod Theorem
-- What each call tells.
pub mod NumbersHold
