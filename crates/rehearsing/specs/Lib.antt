pub mod Rehearsing
pub mod Rehearse
