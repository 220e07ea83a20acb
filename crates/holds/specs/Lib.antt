-- A hold that goes through, then its commit, against an offer in their place.
pub mod HoldThenCommit
