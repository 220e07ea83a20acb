pub mod Filling
pub mod Agreeing
