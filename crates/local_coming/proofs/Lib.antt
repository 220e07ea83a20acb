-- Lending: what is lent of a channel by value, and told.
mod Lending
