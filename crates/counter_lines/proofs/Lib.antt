pub mod CounterForms
mod OwnerValues
