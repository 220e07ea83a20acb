-- Every sound table is shown by some plain channel: queues made place by place (Tabled), the plain channel of a shared table (Made), what a condition says of
-- its message (Fitting), the relation (Showing), the shared table of a sound one (SharedMade), and what is kept along every list of calls (Theorem).
pub mod Tabled
pub mod Made
pub mod Fitting
pub mod Showing
pub mod SharedMade
pub mod Theorem
