-- What a slot comes to, station after station, is the channel's definition.
pub mod Numbers
pub mod Goes
pub mod Slot
mod Rows
