pub mod MessageLines
