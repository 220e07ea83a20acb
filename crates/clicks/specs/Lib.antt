-- What clicks do to a station, and that number 2 is retired.
pub mod NeverTwo
pub mod OwnClicks
pub mod AsksAgain
