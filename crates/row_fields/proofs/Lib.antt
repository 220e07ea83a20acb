pub mod Pairs
pub mod Rows
pub mod RowLaws
pub mod Samples
