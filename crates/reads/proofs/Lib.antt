pub mod Rooms
pub mod RoundLoop
pub mod RoundMoves
pub mod InReads
