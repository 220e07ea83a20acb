-- Comparing: tests that say the same. Redone, Quieted: the quieted channel is sound. QuietMoves, QuietSlots: one slot of it. Served, Sending: who sends. FreeSlots:
-- the calendar's slots. SlotPlans: a run is what places and calendar say. Planning: the theorem, and the plan of any sound table. Told: the number and values of the answer.
pub mod Comparing
pub mod Redone
pub mod Quieted
pub mod QuietMoves
pub mod QuietSlots
pub mod Served
pub mod Sending
pub mod FreeSlots
pub mod SlotPlans
pub mod Planning
pub mod Told
