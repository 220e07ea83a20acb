-- Continuing: the slots of a list of calls, as they are counted. Bounds: how soon a slot that no stream owns comes. Waits: what is shown.
pub mod Continuing
pub mod Bounds
pub mod Waits
