pub mod Parts
pub mod FieldReads
pub mod Firsts
pub mod FirstAnswers
pub mod Samples
