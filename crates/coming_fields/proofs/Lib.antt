pub mod ComingReads
