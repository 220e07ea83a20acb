pub mod Listing
pub mod ListLaws
pub mod LowBytes
pub mod Samples
