pub mod GroupRead
