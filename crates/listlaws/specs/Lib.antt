pub mod Every
pub mod Lists
pub mod Steps
