pub mod Places
pub mod Pieces
pub mod Shifts
pub mod PutLines
pub mod Lines
pub mod Steps
pub mod Whole
pub mod LineRuns
