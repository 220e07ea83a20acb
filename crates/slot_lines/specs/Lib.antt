pub mod SlotLine
