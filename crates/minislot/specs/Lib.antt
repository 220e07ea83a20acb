pub mod Click
pub mod Reading
