-- Listing: what a list of coming senders holds after some of its slots. Agreeing: the list by two ways of saying who is served.
mod Listing
pub mod Agreeing
