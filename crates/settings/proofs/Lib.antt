-- What a calendar comes to, written over the lent table, is the channel's definition; and the records that a loop has set.
pub mod Settings
mod Mapped
