-- What the proof of `write` cites.
mod Told
mod Writes
