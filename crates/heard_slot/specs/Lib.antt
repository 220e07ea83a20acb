pub mod WholeRow
