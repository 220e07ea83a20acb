-- ByValue: the channel by value is the lent one.
mod ByValue
