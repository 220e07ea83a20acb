pub mod TurnSegment
