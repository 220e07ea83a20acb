pub mod Cuts
pub mod CutAnswers
pub mod Streams
pub mod Samples
