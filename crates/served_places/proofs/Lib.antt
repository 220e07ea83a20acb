-- Putting: an index at a message's places, as a loop puts it. ServedLaws: who is served at each place.
mod Putting
pub mod ServedLaws
