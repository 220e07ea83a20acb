-- A hold and its commit of a station (StationHeld), of a table, which stays sound (TableHeld), and of a channel (ChannelHeld, with the theorem).
pub mod StationHeld
pub mod TableHeld
pub mod ChannelHeld
