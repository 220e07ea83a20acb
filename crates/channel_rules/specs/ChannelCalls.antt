-- The channel: a table of stations and a wire; its start, the calls that write a message record of a station, its calendar and its slots
-- (paper 01, "The channel" and "Operations and their numbers"; paper 02, T-02, T-04 and T-06). A refusal leaves table and wire as they
-- were. Assumes nothing.
use Rattle.std.specs.Prelude.{Bool, ◌&&◌, List, [], ◌∷◌, map, ℕ, zero, suc, ◌+◌, ◌-◌, ltb, eqb, length, get_or, set, take, replicate}
use Rattle.minislot.specs.declared.Minislot.{Minislot}
use Rattle.minislot.specs.declared.Feedback.{Feedback}
use Rattle.rows.specs.Row.{readings, feedbacks}
use Rattle.requests.specs.Together.{Request, carries, silent, together}
use Rattle.rules.specs.declared.Station.{Station}
use Rattle.rules.specs.declared.StationSlot.{StationSlot}
use Rattle.rules.specs.declared.Outcome.{Outcome}
use Rattle.rules.specs.declared.Sent.{Sent}
use Rattle.rules.specs.declared.SlotAnswer.{SlotAnswer}
use Rattle.rules.specs.declared.SlotAnswer.TheVariants.{Went as WentSlot, Refused as RefusedSlot}
use Rattle.rules.specs.declared.StartAnswer.{StartAnswer}
use Rattle.rules.specs.declared.StartAnswer.TheVariants.{Ready, Refused as RefusedStart}
use Rattle.rules.specs.declared.WireRow.{WireRow}
use Rattle.std.specs.List.{list_all, flat_map}
use Rattle.listlaws.specs.Lists.{each_pair, only_if}
use Rattle.rules.specs.Calendars.{some_free}
use Rattle.rules.specs.Limits.{between}
use Rattle.rules.specs.Starting.{in_ranges}
use Rattle.rules.specs.Hearing.{words_of, counts_of}
use Rattle.rules.specs.Refusing.{unless, by_number}
use Rattle.rules.specs.Queueing.{step_one_of}
use Rattle.rules.specs.declared.Turn.{Turn}
use Rattle.rules.specs.declared.Turn.TheVariants.{Owned as OwnedTurn, Urgent as UrgentTurn, Long as LongTurn}
use Rattle.rules.specs.declared.Turn.TheVariants.{Resolve as ResolveTurn, Open as OpenTurn}
use Rattle.rules.specs.Outcome.{outcome_of}
use Rattle.rules.specs.StationCalls.{start_station, no_station, is_index, slot_of}
use Rattle.rules.specs.declared.Writing.{Writing}
use Rattle.rules.specs.Writing.{writing_number_of, writing_total_of, written_of}
use Rattle.rules.specs.Settings.{calendar_on}
use Rattle.places.specs.Places.{differ}
use Rattle.channel_rules.specs.Soundness.{sound_table, table_counters, position_of, is_on_table, entries_on}
use Rattle.rules.specs.declared.Answer.{Answer}
use Rattle.rules.specs.declared.Answer.TheVariants.{Refused, Set, Went}
use Rattle.rules.specs.Calls.{Call, Write, Slot, Calendar, writing_answer}

pub record Channel : Type 0 where
  pub stations : List Station
  pub wire : List WireRow

pub record ChannelResult : Type 0 where
  pub state : Channel
  pub answer : Answer

pub record ChannelStarted : Type 0 where
  pub state : Channel
  pub answer : StartAnswer

-- ---- starting: 5, 14, 8, 15

abbrev pub blank_row : WireRow
blank_row = record { minislots = replicate 8 silent }

abbrev pub blank_wire : List WireRow
blank_wire = replicate 8 blank_row

abbrev pub new_stations : ℕ → ℕ → List ℕ → List Station
new_stations m n indexes = map (start_station m n) indexes

abbrev pub new_channel : ℕ → ℕ → List ℕ → Channel
new_channel m n indexes = record { stations = new_stations m n indexes; wire = blank_wire }

-- 1 to 64 stations
abbrev pub has_stations : List Station → Bool
has_stations stations = between 1 (length stations) 64

abbrev pub refused_beginning : Channel → ℕ → ChannelStarted
refused_beginning ch n = record { state = ch; answer = RefusedStart n }

-- on a table of `count` records
unfoldable pub channel_start_number_of : ℕ → ℕ → ℕ → List ℕ → ℕ
channel_start_number_of count m n indexes =
    unless (in_ranges m n) 5
    (unless (between 1 count 64 && eqb (length indexes) count) 14
    (unless (list_all is_index indexes) 8
    (unless (each_pair differ indexes) 15
    0)))

unfoldable pub channel_start_of : Channel → ℕ → ℕ → List ℕ → ChannelStarted
channel_start_of ch m n indexes =
    by_number (channel_start_number_of (length ch.stations) m n indexes) (refused_beginning ch)
    (record { state = new_channel m n indexes; answer = Ready })

-- ---- an offer, a hold, a commit, a withdrawal: 14, 18, 16, then 10, 9 or 22

abbrev pub refused : Channel → ℕ → ChannelResult
refused ch n = record { state = ch; answer = Refused n }

-- the station of an index
abbrev pub station_of : Channel → ℕ → Station
station_of ch index = get_or ch.stations (position_of index ch.stations) no_station

-- station k is written
abbrev pub written_at : Channel → ℕ → Writing → ChannelResult
written_at ch k w =
    record {
      state = record { stations = set ch.stations k (written_of (get_or ch.stations k no_station) w); wire = ch.wire };
      answer = writing_answer w (writing_total_of (get_or ch.stations k no_station) w);
    }

unfoldable pub channel_write_number_of : Channel → ℕ → Writing → ℕ
channel_write_number_of ch index w =
    unless (has_stations ch.stations) 14
    (unless (sound_table ch.stations ch.wire) 18
    (unless (is_on_table ch.stations index) 16
    (writing_number_of (station_of ch index) w)))

unfoldable pub channel_write_of : Channel → ℕ → Writing → ChannelResult
channel_write_of ch index w = by_number (channel_write_number_of ch index w) (refused ch) (written_at ch (position_of index ch.stations) w)

-- ---- setting a calendar: 14, 18, 20, 21

-- every record alike
abbrev pub calendar_set : Channel → List ℕ → ChannelResult
calendar_set ch entries = record { state = record { stations = map (calendar_on entries) ch.stations; wire = ch.wire }; answer = Set }

unfoldable pub channel_calendar_number_of : Channel → List ℕ → ℕ
channel_calendar_number_of ch entries =
    unless (has_stations ch.stations) 14
    (unless (sound_table ch.stations ch.wire) 18
    (unless (entries_on ch.stations entries) 20
    (unless (some_free entries) 21
    0)))

unfoldable pub channel_calendar_of : Channel → List ℕ → ChannelResult
channel_calendar_of ch entries = by_number (channel_calendar_number_of ch entries) (refused ch) (calendar_set ch entries)

-- ---- a slot: 14, 18, 17, 11, 7

-- the row that the next group's slot hears: the first m minislots of the group's row on the wire
unfoldable pub heard_row : Channel → List Minislot
heard_row ch = take (table_counters ch.stations).minislots (get_or ch.wire ((table_counters ch.stations).next - 1) blank_row).minislots

-- what it reads as
abbrev pub feedback_heard : Channel → List Feedback
feedback_heard ch = feedbacks (readings (words_of (heard_row ch)) (counts_of (heard_row ch)))

-- each station's slot, with its pick
abbrev pub slots_of : List ℕ → List ℕ → List Station → List ℕ → List StationSlot
slots_of words counts [] picks = []
slots_of words counts (s ∷ l) [] = []
slots_of words counts (s ∷ l) (pick ∷ picks) = slot_of s words counts pick ∷ slots_of words counts l picks

-- the request that a station's slot leaves in minislot j
abbrev pub request_in : ℕ → StationSlot → SlotAnswer → List Request
request_in j r (WentSlot turn minislot segment) =
    only_if (eqb minislot j) (record { index = r.station.index; total = r.request } ∷ [])
request_in j r (RefusedSlot n) = []

abbrev pub requests_in : ℕ → List StationSlot → List Request
requests_in j results = flat_map (λ (r : StationSlot). request_in j r r.answer) results

-- the group's new row: minislots j, j + 1, .., n of them
abbrev pub new_row : List StationSlot → ℕ → ℕ → List Minislot
new_row results zero j = []
new_row results (suc n) j = together (map carries (requests_in j results)) ∷ new_row results n (suc j)

-- a station sends data: in an owned slot the owner alone, its stream; else whoever sends a segment of its message
abbrev pub speaks : Turn → ℕ → ℕ → Bool
speaks (OwnedTurn x) index segment = eqb index x
speaks UrgentTurn index segment = ltb 0 segment
speaks LongTurn index segment = ltb 0 segment
speaks ResolveTurn index segment = ltb 0 segment
speaks OpenTurn index segment = ltb 0 segment

-- a data sender: its index and the segment, 0 for a stream
pub record DataSent : Type 0 where
  pub index : ℕ
  pub segment : ℕ

abbrev pub data_in : StationSlot → SlotAnswer → List DataSent
data_in r (WentSlot turn minislot segment) =
    only_if (speaks turn r.station.index segment) (record { index = r.station.index; segment = segment } ∷ [])
data_in r (RefusedSlot n) = []

abbrev pub data_sent : List StationSlot → List DataSent
data_sent results = flat_map (λ (r : StationSlot). data_in r r.answer) results

-- index and segment of a lone sender, 0 and 0 if there isn't just one
abbrev pub lone_index : List DataSent → ℕ
lone_index [] = 0
lone_index (x ∷ []) = x.index
lone_index (x ∷ y ∷ l) = 0

abbrev pub lone_segment : List DataSent → ℕ
lone_segment [] = 0
lone_segment (x ∷ []) = x.segment
lone_segment (x ∷ y ∷ l) = 0

-- delivered when sent: data sent on an urgent or long turn. A stream is in no total
abbrev pub delivered_now : Turn → ℕ → ℕ
delivered_now (OwnedTurn x) senders = 0
delivered_now UrgentTurn senders = senders
delivered_now LongTurn senders = senders
delivered_now ResolveTurn senders = 0
delivered_now OpenTurn senders = 0

-- the stations' slots on the row that the next group's slot hears
abbrev pub slots_heard : Channel → List ℕ → List StationSlot
slots_heard ch picks = slots_of (words_of (heard_row ch)) (counts_of (heard_row ch)) ch.stations picks

-- the outcome by the counters that all stations share
abbrev pub outcome_heard : Channel → Outcome
outcome_heard ch = outcome_of (table_counters ch.stations) (feedback_heard ch)

-- what they send
abbrev pub sent_of : List StationSlot → Sent
sent_of results =
    record {
      minislots = new_row results 8 1;
      senders = length (data_sent results);
      index = lone_index (data_sent results);
      segment = lone_segment (data_sent results);
    }

-- a slot that goes through: by its outcome and what is sent
abbrev pub slot_answer : Outcome → Sent → Answer
slot_answer o sent =
    Went o.turn sent.senders sent.index sent.segment (o.delivered + delivered_now o.turn sent.senders)

abbrev pub wire_after : List WireRow → Outcome → Sent → List WireRow
wire_after wire o sent = set wire (o.group - 1) (record { minislots = sent.minislots })

abbrev pub slot_through : Channel → Outcome → List StationSlot → ChannelResult
slot_through ch o results =
    record {
      state = record { stations = map (λ (r : StationSlot). r.station) results; wire = wire_after ch.wire o (sent_of results) };
      answer = slot_answer o (sent_of results);
    }

unfoldable pub channel_slot_number_of : Channel → List ℕ → ℕ
channel_slot_number_of ch picks =
    unless (has_stations ch.stations) 14
    (unless (sound_table ch.stations ch.wire) 18
    (unless (eqb (length picks) (length ch.stations)) 17
    (unless (list_all (λ (pick : ℕ). between 1 pick (table_counters ch.stations).minislots) picks) 11
    (unless (step_one_of (table_counters ch.stations) (feedback_heard ch)).fits 7
    0))))

unfoldable pub channel_slot_of : Channel → List ℕ → ChannelResult
channel_slot_of ch picks =
    by_number (channel_slot_number_of ch picks) (refused ch) (slot_through ch (outcome_heard ch) (slots_heard ch picks))

-- ---- a call, and lists of calls

abbrev pub channel_call : Channel → Call → ChannelResult
channel_call ch (Write index w) = channel_write_of ch index w
channel_call ch (Slot picks) = channel_slot_of ch picks
channel_call ch (Calendar entries) = channel_calendar_of ch entries

abbrev pub channel_after : Channel → List Call → Channel
channel_after ch [] = ch
channel_after ch (c ∷ l) = channel_after (channel_call ch c).state l

abbrev pub channel_answers : Channel → List Call → List Answer
channel_answers ch [] = []
channel_answers ch (c ∷ l) = (channel_call ch c).answer ∷ channel_answers (channel_call ch c).state l
