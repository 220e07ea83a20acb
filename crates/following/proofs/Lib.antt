pub mod RowNumbers
