-- ByValue: the channel that a call by value is made on. Replies: what the calls come back with.
pub mod ByValue
pub mod Replies
