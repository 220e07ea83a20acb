pub mod Senders
pub mod Placing
