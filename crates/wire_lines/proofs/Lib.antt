pub mod GroupRuns
pub mod WireForms
pub mod RowValues
