pub mod WireLines
