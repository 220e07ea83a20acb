pub mod Landable
