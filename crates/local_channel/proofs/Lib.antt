-- What the calls answer.
pub mod Told
