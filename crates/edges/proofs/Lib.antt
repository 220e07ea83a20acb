-- Their proofs, and a worked list of calls.
pub mod ChangesHold
pub mod GroupRounds
pub mod EdgesAnyHold
pub mod EdgesHold
pub mod Worked
