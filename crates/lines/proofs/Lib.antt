pub mod LineLaws
pub mod Samples
