pub mod RefusalLaws
pub mod Samples
