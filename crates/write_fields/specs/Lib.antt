pub mod WriteFields
