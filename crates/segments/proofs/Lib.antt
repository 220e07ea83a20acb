pub mod Cuts
pub mod Joined
