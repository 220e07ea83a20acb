-- Loading: what a table is that is loaded, changed and stored.
pub mod Loading
