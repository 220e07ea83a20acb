pub mod CallFields
