-- Laws of waiting.
pub mod SlotLeaves
pub mod CallLeaves
pub mod LoneSender
pub mod Conditions
pub mod UrgentSteps
pub mod LongSteps
pub mod Counting
pub mod UrgentRuns
pub mod UrgentOrder
pub mod LongRuns
pub mod LongOrder
pub mod RowOrder
pub mod FreeBounds
pub mod Theorem
