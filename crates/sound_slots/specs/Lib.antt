-- Demand 2's account of the row, that the wire has no clicks, who sends in an owned slot, who sent in an open one by what its row shows,
-- and how long the queues of a sound table can be.
pub mod RowAccount
pub mod NoClicks
pub mod OwnedSlots
pub mod OpenSlots
pub mod Room
