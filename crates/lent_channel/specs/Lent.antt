-- The channel's calls on the first records of a room: the channel's own definitions, of the part that is lent, with the rest of the room
-- as it was. Assumes nothing.
use Rattle.std.specs.Prelude.{List, ◌++◌, ℕ, take, drop}
use Rattle.rules.specs.declared.Station.{Station}
use Rattle.rules.specs.declared.WireRow.{WireRow}
use Rattle.channel_rules.specs.ChannelCalls.{Channel, ChannelResult, ChannelStarted}
use Rattle.calls.specs.ByValue.{channel_of}
use Rattle.lent_channel.specs.declared.StartLent.{StartLent}
use Rattle.lent_channel.specs.declared.CallLent.{CallLent}

-- the channel that is lent: the first n records of the room, or all where there are fewer, and the wire
abbrev pub lent_of : List Station → ℕ → List WireRow → Channel
lent_of room n wire = channel_of (take n room) wire

-- the room after a call: the records that the call left, and the rest of the room as it was
abbrev pub room_after : List Station → ℕ → Channel → List Station
room_after room n after = after.stations ++ drop n room

-- ---- a call on the first n records of a room

abbrev pub start_lent_of : List Station → ℕ → ChannelStarted → StartLent
start_lent_of room n r = record { stations = room_after room n r.state; reply = record { answer = r.answer; wire = r.state.wire } }

abbrev pub call_lent_of : List Station → ℕ → ChannelResult → CallLent
call_lent_of room n r = record { stations = room_after room n r.state; reply = record { answer = r.answer; wire = r.state.wire } }
