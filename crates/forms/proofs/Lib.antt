pub mod FormLaws
pub mod Begun
pub mod FormLines
pub mod Samples
