-- The rules of a channel: a sound table as tests (Soundness), the calls (ChannelCalls) and what each of them tells (Answered), a sound
-- table as the paper words it (SoundMeaning), and the statement of demand 3.
pub mod Soundness
pub mod ChannelCalls
pub mod Answered
pub mod SoundMeaning
pub mod Demand3
