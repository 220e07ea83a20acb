-- Laws of the table by value, for the calls.
pub mod ByValue
