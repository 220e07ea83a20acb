-- What a writing comes to, written over the lent table, is the channel's definition.
pub mod Writes
