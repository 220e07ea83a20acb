pub mod ShowLines
