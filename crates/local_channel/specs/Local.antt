-- The calls of a channel that its caller has by value: the channel's own definitions, of the part of the room that is lent, with the rest
-- of the room as it was. Assumes nothing.
use Rattle.std.specs.Prelude.{List, ℕ}
use Rattle.rules.specs.declared.Writing.{Writing}
use Rattle.channel_rules.specs.ChannelCalls.{Channel, ChannelResult, ChannelStarted}
use Rattle.channel_rules.specs.ChannelCalls.{channel_start_of, channel_write_of, channel_calendar_of, channel_slot_of}
use Rattle.lent_channel.specs.Lent.{lent_of, room_after}
use Rattle.local_channel.specs.declared.LocalChannel.{LocalChannel}
use Rattle.local_channel.specs.declared.LocalStarted.{LocalStarted}
use Rattle.local_channel.specs.declared.LocalCalled.{LocalCalled}

abbrev pub lent_by : LocalChannel → Channel
lent_by c = lent_of c.stations c.count c.wire

abbrev pub local_after : LocalChannel → Channel → LocalChannel
local_after c after = record { stations = room_after c.stations c.count after; count = c.count; wire = after.wire }

abbrev pub local_started : LocalChannel → ChannelStarted → LocalStarted
local_started c r = record { channel = local_after c r.state; answer = r.answer }

unfoldable pub local_start_of : LocalChannel → ℕ → ℕ → List ℕ → LocalStarted
local_start_of c m n indexes = local_started c (channel_start_of (lent_by c) m n indexes)

abbrev pub local_called : LocalChannel → ChannelResult → LocalCalled
local_called c r = record { channel = local_after c r.state; answer = r.answer }

unfoldable pub local_write_of : LocalChannel → ℕ → Writing → LocalCalled
local_write_of c index w = local_called c (channel_write_of (lent_by c) index w)

unfoldable pub local_calendar_of : LocalChannel → List ℕ → LocalCalled
local_calendar_of c entries = local_called c (channel_calendar_of (lent_by c) entries)

unfoldable pub local_slot_of : LocalChannel → List ℕ → LocalCalled
local_slot_of c picks = local_called c (channel_slot_of (lent_by c) picks)
