pub mod NumberList
