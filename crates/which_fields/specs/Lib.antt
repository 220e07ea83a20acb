pub mod WhichFields
