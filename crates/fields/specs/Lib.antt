pub mod Fields
pub mod Steps
pub mod First
