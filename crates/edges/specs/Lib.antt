-- Each counter's change in a slot, the general form of the P edges, and the paper's instances.
pub mod Changes
pub mod EdgesAny
pub mod Edges
