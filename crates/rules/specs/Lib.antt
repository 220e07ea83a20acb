-- The rules of papers 01 and 02 as definitions. The order of checking: Refusing. The counters' rules: Calendars, Limits, Starting,
-- Hearing, RowCounts and Queueing (step 1), Turns (step 2), Falling (steps 4 and 5), Listening. The station's rules: StationLimits,
-- Landing (step 1), OwnHearing (refusal 12), Requesting (step 3), Serving (steps 4 and 5), Outcome and Stepping (a slot's outcome and one
-- station's step by it), StationCalls, Writing (an offer, a hold, a commit, a withdrawal). Setting a calendar of a listener or a station:
-- Settings. The calls of a list, and answers as the paper's numbers: Calls, Numbers, Answered; rows of a recording: Recorded. The plain
-- channel: Messages, Plain, Positions. What one slot does to a place of a transmission queue: PlaceSteps.
pub mod Refusing
pub mod Calendars
pub mod Limits
pub mod Starting
pub mod Hearing
pub mod RowCounts
pub mod Queueing
pub mod Turns
pub mod Falling
pub mod Listening
pub mod StationLimits
pub mod Landing
pub mod OwnHearing
pub mod Requesting
pub mod Serving
pub mod Outcome
pub mod Stepping
pub mod StationCalls
pub mod Writing
pub mod Settings
pub mod Calls
pub mod Numbers
pub mod Messages
pub mod Plain
pub mod Positions
pub mod Recorded
pub mod Answered
pub mod PlaceSteps
