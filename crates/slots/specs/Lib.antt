-- Judging: a slot's number and outcome. Heard: a row of the wire that can be heard. Stepped: the whole slot, the stations one after
-- the other.
pub mod Judging
pub mod Heard
pub mod Stepped
