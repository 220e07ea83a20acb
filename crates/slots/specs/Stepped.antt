-- A whole slot: judged, then one station after the other steps by the outcome with its pick, and what it sends is gathered; then the reply.
-- Assumes nothing.
use mathlib.Core.List.{List, foldl}
use Rattle.std.specs.Prelude.{ℕ, take}
use Rattle.listlaws.specs.Steps.{all_steps, each_with}
use Rattle.rules.specs.declared.Outcome.{Outcome}
use Rattle.rules.specs.declared.Sent.{Sent}
use Rattle.rules.specs.declared.Station.{Station}
use Rattle.rules.specs.declared.WireRow.{WireRow}
use Rattle.rules.specs.Stepping.{step_of}
use Rattle.channel_rules.specs.ChannelCalls.{ChannelResult}
use Rattle.sending.specs.Gathered.{silence, gathered}
use Rattle.calls.specs.ByValue.{channel_of}
use Rattle.calls.specs.declared.Judged.{Judged}
use Rattle.replying.specs.Replying.{reply_of}

-- a station's record after its step
abbrev pub station_after : Outcome → Station → ℕ → Station
station_after o s pick = (step_of o s pick).station

-- the table once so many stations have stepped
unfoldable pub stepped_of : Outcome → ℕ → List Station → List ℕ → List Station
stepped_of o steps ys picks = all_steps (station_after o) ys (take steps picks)

-- what they send
unfoldable pub gathered_of : Outcome → ℕ → List Station → List ℕ → Sent
gathered_of o steps ys picks = foldl gathered silence (each_with (step_of o) ys (take steps picks))

-- what a slot leaves and answers
abbrev pub slot_left : Judged → List Station → List WireRow → List ℕ → ChannelResult
slot_left j ys wire picks =
    record {
      state = channel_of (stepped_of j.outcome j.steps ys picks) (reply_of j wire (gathered_of j.outcome j.steps ys picks)).wire;
      answer = (reply_of j wire (gathered_of j.outcome j.steps ys picks)).answer;
    }
