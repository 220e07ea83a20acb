-- What is gathered forward is what the channel's definition gathers.
pub mod Forward
