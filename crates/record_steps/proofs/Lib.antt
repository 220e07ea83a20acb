pub mod RowReads
pub mod FirstReads
