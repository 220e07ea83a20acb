pub mod ComingFields
