pub mod ComingLines
