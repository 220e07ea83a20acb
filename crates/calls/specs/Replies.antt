-- What the calls come back with, and what they leave. Assumes nothing.
use Rattle.std.specs.Prelude.{List, ℕ}
use Rattle.rules.specs.declared.Station.{Station}
use Rattle.rules.specs.declared.WireRow.{WireRow}
use Rattle.rules.specs.declared.Answer.TheVariants.{Refused}
use Rattle.rules.specs.declared.StartAnswer.TheVariants.{Refused as RefusedStart}
use Rattle.calls.specs.declared.CallReply.{CallReply}
use Rattle.calls.specs.declared.Decided.{Decided}
use Rattle.calls.specs.declared.StartReply.{StartReply}
use Rattle.channel_rules.specs.ChannelCalls.{ChannelResult}
use Rattle.table.specs.Loading.{blank_of, store_of}
use Rattle.calls.specs.ByValue.{channel_of}

-- a refusal: its number, and the wire as it came
abbrev pub refused_reply : List WireRow → ℕ → CallReply
refused_reply wire n = record { answer = Refused n; wire = wire }

abbrev pub refused_start_reply : List WireRow → ℕ → StartReply
refused_start_reply wire n = record { answer = RefusedStart n; wire = wire }

-- a refusal writes no record
abbrev pub refused_decided : List WireRow → ℕ → Decided
refused_decided wire n = record { loaded = blank_of 0; reply = refused_reply wire n }

-- what is left once its records are written over the table
abbrev pub decided_left : List Station → Decided → ChannelResult
decided_left ys d = record { state = channel_of (store_of ys d.loaded) d.reply.wire; answer = d.reply.answer }
