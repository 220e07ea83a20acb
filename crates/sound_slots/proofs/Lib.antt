-- A sound table's slot goes through (Passing, ChannelLaws), its row is what is transmitted (Transmission), an owned one has one sender (OwnedSlotsHold), an
-- open one the sender of the row's one short request (OpenSlotsHold), and it never answers 7 (NeverSeven).
pub mod Passing
pub mod ChannelLaws
pub mod Transmission
pub mod OwnedSlotsHold
pub mod OpenSteps
pub mod OpenSlotsHold
pub mod NeverSeven
