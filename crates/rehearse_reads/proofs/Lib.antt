pub mod LineBounds
pub mod StationBounds
pub mod WireBounds
pub mod ShowBounds
pub mod AnswerBounds
pub mod ComingBounds
pub mod GoodKept
pub mod Instance
