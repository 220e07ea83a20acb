pub mod MessageRuns
