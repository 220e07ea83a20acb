-- What is kept from any sound table.
pub mod Kept
