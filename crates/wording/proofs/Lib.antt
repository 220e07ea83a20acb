pub mod Lowers
