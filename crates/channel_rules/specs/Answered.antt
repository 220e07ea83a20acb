-- What each call on a channel answers, as the paper's number and values (paper 01, "Operations and their numbers, in order of checking"):
-- the number is that of the call's own list, and what is told with 0 stands here. proofs/NumbersHold shows that the calls' definitions
-- answer just this. Assumes nothing.
use Rattle.std.specs.Prelude.{List, [], ◌∷◌, ℕ, ◌+◌, length}
use Rattle.rules.specs.Calls.{Call, Write, Slot, Calendar}
use Rattle.rules.specs.Numbers.{Told}
use Rattle.rules.specs.declared.Writing.{Writing}
use Rattle.rules.specs.Writing.{writing_total_of}
use Rattle.rules.specs.Answered.{told, slot_turn}
use Rattle.channel_rules.specs.ChannelCalls.{Channel, station_of, channel_start_number_of, channel_write_number_of}
use Rattle.channel_rules.specs.ChannelCalls.{channel_slot_number_of, channel_calendar_number_of}
use Rattle.channel_rules.specs.ChannelCalls.{slots_heard, outcome_heard, sent_of, delivered_now}

unfoldable pub channel_start_told_of : Channel → ℕ → ℕ → List ℕ → Told
channel_start_told_of ch m n indexes = told (channel_start_number_of (length ch.stations) m n indexes) [] []

-- an offer, a hold, a commit, a withdrawal: the slot total
unfoldable pub channel_write_told_of : Channel → ℕ → Writing → Told
channel_write_told_of ch index w = told (channel_write_number_of ch index w) [] (writing_total_of (station_of ch index) w ∷ [])

-- the number of data senders, the index and segment of a lone one, and the slots delivered: those of the row heard, if it was immediate
-- success, and those sent on an urgent or long turn
unfoldable pub channel_slot_told_of : Channel → List ℕ → Told
channel_slot_told_of ch picks =
    let sent = sent_of (slots_heard ch picks) in
    let o = outcome_heard ch in
    told (channel_slot_number_of ch picks) (slot_turn o)
    (sent.senders ∷ sent.index ∷ sent.segment ∷ (o.delivered + delivered_now o.turn sent.senders) ∷ [])

-- setting a calendar answers no value
unfoldable pub channel_calendar_told_of : Channel → List ℕ → Told
channel_calendar_told_of ch entries = told (channel_calendar_number_of ch entries) [] []

-- any call of demand 3's list
abbrev pub channel_told_of : Channel → Call → Told
channel_told_of ch (Write index w) = channel_write_told_of ch index w
channel_told_of ch (Slot picks) = channel_slot_told_of ch picks
channel_told_of ch (Calendar entries) = channel_calendar_told_of ch entries
