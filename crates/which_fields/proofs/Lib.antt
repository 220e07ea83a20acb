pub mod WholePart
pub mod WhichReads
