pub mod Lawful
pub mod Reads
