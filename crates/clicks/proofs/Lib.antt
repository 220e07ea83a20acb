-- Their proofs.
pub mod NeverTwoHolds
pub mod HeardSlots
pub mod OwnClicksHold
pub mod AsksAgainHold
