-- Counts: the law by which the calls for any count cite those of a part.
pub mod Counts
