-- What the stations of a channel send in a slot, gathered one station after the other (paper 01, "One slot of group g", 3 and 4;
-- paper 02, T-02 and T-04). Assumes nothing.
use Rattle.std.specs.Prelude.{cond, ℕ, ◌+◌, eqb, ltb, replicate}
use Rattle.requests.specs.Together.{Request, carries, silent, placed}
use Rattle.rules.specs.declared.Sent.{Sent}
use Rattle.rules.specs.declared.SlotAnswer.{SlotAnswer}
use Rattle.rules.specs.declared.SlotAnswer.TheVariants.{Went, Refused}
use Rattle.rules.specs.declared.StationSlot.{StationSlot}
use Rattle.rules.specs.declared.Turn.{Turn}
use Rattle.channel_rules.specs.ChannelCalls.{speaks}

-- nobody has sent anything
unfoldable pub silence : Sent
silence = record { minislots = replicate 8 silent; senders = 0; index = 0; segment = 0 }

-- the request of a station: its index, and the slot total of the message that it asks for
abbrev pub station_request : ℕ → ℕ → Request
station_request index total = record { index = index; total = total }

-- one data sender more, counted up to 255
unfoldable pub one_more : ℕ → ℕ
one_more n = cond (ltb n 255) (n + 1) n

-- a data sender joins: the first is named, as long as it is alone
abbrev pub joined_by : ℕ → ℕ → Sent → Sent
joined_by index segment sent =
    record {
      minislots = sent.minislots;
      senders = one_more sent.senders;
      index = cond (eqb sent.senders 0) index 0;
      segment = cond (eqb sent.senders 0) segment 0;
    }

-- a station's data: the owner's stream in an owned slot, segment 0; else its segment, 0 for none
unfoldable pub with_data : Turn → ℕ → ℕ → Sent → Sent
with_data turn index segment sent = cond (speaks turn index segment) (joined_by index segment sent) sent

-- a station's request in its minislot, 0 for none
abbrev pub with_request : ℕ → Request → Sent → Sent
with_request minislot request sent =
    record {
      minislots = placed minislot (carries request) sent.minislots;
      senders = sent.senders;
      index = sent.index;
      segment = sent.segment;
    }

-- a refused slot sends nothing
abbrev pub gathered_by : Sent → StationSlot → SlotAnswer → Sent
gathered_by sent r (Went turn minislot segment) =
    with_request minislot (station_request r.station.index r.request) (with_data turn r.station.index segment sent)
gathered_by sent r (Refused n) = sent

-- ONE STATION'S SLOT joins those before it
unfoldable pub gathered : Sent → StationSlot → Sent
gathered sent r = gathered_by sent r r.answer
