-- What a call on the lent table leaves, as the channel's definitions have it: the table after, the wire handed back, and the answer.
-- Assumes nothing.
use Rattle.std.specs.Prelude.{List}
use Rattle.rules.specs.declared.Station.{Station}
use Rattle.channel_rules.specs.ChannelCalls.{ChannelResult, ChannelStarted}
use Rattle.calls.specs.declared.CallReply.{CallReply}
use Rattle.calls.specs.declared.StartReply.{StartReply}
use Rattle.calls.specs.ByValue.{channel_of}

-- a start, by the table after it and its reply
abbrev pub leaves_started : List Station → StartReply → ChannelStarted
leaves_started stations r = record { state = channel_of stations r.wire; answer = r.answer }

-- a writing, a calendar or a slot
abbrev pub leaves : List Station → CallReply → ChannelResult
leaves stations r = record { state = channel_of stations r.wire; answer = r.answer }
