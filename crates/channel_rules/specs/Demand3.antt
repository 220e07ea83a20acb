-- DEMAND 3 (paper 01, "Demand 3's list" and "The channel"; paper 02, T-02, T-04 and T-06): one claim over every list of calls on one
-- channel from a start that goes through, refused calls included, any arguments at all. Each field is a sentence of the paper. `ch` is
-- the channel after the list, `p` the plain channel after it. Assumes nothing.
use Rattle.std.specs.Prelude.{◌≡◌, Bool, true, false, cond, List, [], ◌∷◌, map, ◌⊎◌, ℕ, ◌+◌, ◌-◌, ◌%◌, ◌≤◌, ◌<◌, eqb, length, get_or}
use Rattle.std.proofs.Math.Option.{Option, none, some}
use Rattle.requests.specs.Together.{Request, carries, silent, together}
use Rattle.rules.specs.declared.Places.{Places}
use Rattle.rules.specs.declared.Station.{Station}
use Rattle.rules.specs.declared.StartAnswer.TheVariants.{Ready}
use Rattle.listlaws.specs.Lists.{sum_of, count_of}
use Rattle.rules.specs.Calendars.{owner_of}
use Rattle.rules.specs.Hearing.{words_of}
use Rattle.rules.specs.Queueing.{places_after}
use Rattle.rules.specs.declared.Turn.{Turn}
use Rattle.rules.specs.declared.Condition.{Condition}
use Rattle.rules.specs.declared.Condition.TheVariants.{Long}
use Rattle.rules.specs.OwnHearing.{hears_itself}
use Rattle.rules.specs.Serving.{waiting}
use Rattle.channel_rules.specs.Soundness.{table_counters}
use Rattle.channel_rules.specs.SoundMeaning.{station_at, Sound}
use Rattle.channel_rules.specs.ChannelCalls.{Channel, blank_row, channel_start_of, heard_row}
use Rattle.channel_rules.specs.ChannelCalls.{feedback_heard, channel_call, channel_after, channel_answers}
use Rattle.rules.specs.declared.Answer.{Answer}
use Rattle.rules.specs.declared.Answer.TheVariants.{Refused, Taken, OnHold, Committed, Withdrawn, Set, Went}
use Rattle.rules.specs.Calls.{Start, index, Call, Write, Slot, Calendar}
use Rattle.rules.specs.Messages.{Message, Segment, segments_from, short_record, long_record, record_of, of, delivered_for}
use Rattle.rules.specs.Plain.{Plain, plain_start, plain_after, plain_answers, slot_sum, in_use}
use Rattle.rules.specs.Positions.{condition_of}

-- ---- the words of the statement

-- a message's request: its station's index and its whole slot count
abbrev pub request_of : Start → Message → Request
request_of S m = record { index = index S m.station; total = m.slots }

-- the messages that the plain channel has asking in minislot j of group g
abbrev pub asking_at : Plain → ℕ → ℕ → List Message
asking_at p g j = get_or (p.group g).asking (j - 1) []

-- what stands at place i of the long queue, and the i-th message taken, from 0
abbrev pub no_message : Message
no_message = record { serial = 0; station = 0; slots = 0 }

abbrev pub segment_at : Plain → ℕ → Segment
segment_at p i = get_or p.long (i - 1) (record { message = no_message; number = 0 })

abbrev pub message_at : Plain → ℕ → Message
message_at p i = get_or p.taken i no_message

-- refused with number n
abbrev pub is_refusal : ℕ → Answer → Bool
is_refusal n (Refused x) = eqb x n
is_refusal n (Taken t) = false
is_refusal n (OnHold t) = false
is_refusal n (Committed t) = false
is_refusal n (Withdrawn t) = false
is_refusal n Set = false
is_refusal n (Went turn senders index segment delivered) = false

-- the slots that an answer says were taken, at an offer or a commit, and delivered
abbrev pub taken_in : Answer → ℕ
taken_in (Refused x) = 0
taken_in (Taken t) = t
taken_in (OnHold t) = 0
taken_in (Committed t) = t
taken_in (Withdrawn t) = 0
taken_in Set = 0
taken_in (Went turn senders index segment delivered) = 0

abbrev pub delivered_in : Answer → ℕ
delivered_in (Refused x) = 0
delivered_in (Taken t) = 0
delivered_in (OnHold t) = 0
delivered_in (Committed t) = 0
delivered_in (Withdrawn t) = 0
delivered_in Set = 0
delivered_in (Went turn senders index segment delivered) = delivered

-- the lengths of the queues once the row that the next slot hears is counted
abbrev pub counted_places : Channel → Places
counted_places ch = places_after (table_counters ch.stations) (feedback_heard ch)

-- an owned slot has exactly one sender, its owner, with its stream; of all other slots, outside open access exactly one sender if either
-- transmission queue holds a place, and none otherwise
pub record SendersAre (owner : Option ℕ) (c : Places) (senders lone segment : ℕ) : Type 0 where
  pub owned : (x : ℕ) → owner ≡ some x → (senders ≡ 1) × (lone ≡ x) × (segment ≡ 0)
  pub urgent : owner ≡ none → 0 < c.urgent → senders ≡ 1
  pub long : owner ≡ none → 0 < c.long → senders ≡ 1
  pub resolve : owner ≡ none → c.urgent ≡ 0 → c.long ≡ 0 → 0 < c.resolution → senders ≡ 0

-- of each slot in a list that went through
abbrev pub SenderRule : Channel → List Call → Type 0
SenderRule ch [] = Unit {0}
SenderRule ch (Write x w ∷ l) = SenderRule (channel_call ch (Write x w)).state l
SenderRule ch (Slot picks ∷ l) =
    ((turn : Turn) (senders i s d : ℕ) → (channel_call ch (Slot picks)).answer ≡ Went turn senders i s d
    → SendersAre (owner_of (table_counters ch.stations)) (counted_places ch) senders i s)
    × SenderRule (channel_call ch (Slot picks)).state l
SenderRule ch (Calendar entries ∷ l) = SenderRule (channel_call ch (Calendar entries)).state l

-- a station's counters are the lengths of the plain queues, its Open marks, next group, calendar and position the plain ones
pub record CountersShow (S : Start) (p : Plain) (s : Station) : Type 0 where
  pub minislots : s.counters.minislots ≡ S.m
  pub groups : s.counters.groups ≡ S.n
  pub next : s.counters.next ≡ p.next
  pub urgent : s.counters.urgent ≡ length p.urgent
  pub long : s.counters.long ≡ length p.long
  pub resolution : (g : ℕ) → 1 ≤ g → g ≤ 8 → get_or s.counters.resolution (g - 1) 0 ≡ length (p.group g).resolution
  pub opened : (g : ℕ) → 1 ≤ g → g ≤ 8 → get_or s.counters.opened (g - 1) false ≡ (p.group g).opened
  pub calendar : s.counters.calendar ≡ p.calendar
  pub position : s.counters.position ≡ p.slots % 24

-- where a message's record stands: its station's short one if it has one slot, else the long one
abbrev pub holder_of : Channel → Message → Condition
holder_of ch m =
    let s = station_at ch.stations m.station in
    cond (eqb m.slots 1) s.short.condition s.long.condition

-- of a message taken: the slots delivered are its first ones, each once and in order, and the rest wait in its record
pub record MessageShows (p : Plain) (ch : Channel) (m : Message) : Type 0 where
  pub delivered : ℕ
  pub most : delivered ≤ m.slots
  pub order : delivered_for m.serial p.history ≡ segments_from m delivered 1
  pub rest : delivered < m.slots → waiting (holder_of ch m) ≡ m.slots - delivered

-- a message of record k, which is one of a station and a kind, is not all delivered: one of those taken, from 0
pub record NotAllDelivered (p : Plain) (k : ℕ) : Type 0 where
  pub which : ℕ
  pub taken : which < length p.taken
  pub own : record_of (message_at p which) ≡ k
  pub left : length (delivered_for (message_at p which).serial p.history) < (message_at p which).slots

-- a message of record k is held
pub record IsHeld (p : Plain) (k : ℕ) : Type 0 where
  pub which : ℕ
  pub held : which < length p.held
  pub own : record_of (get_or p.held which no_message) ≡ k

-- ---- THE CLAIM

pub record Demand3 (S : Start) (begun : Channel) (calls : List Call) (ch : Channel) (p : Plain) : Type 0 where
  -- the table has the start's stations: station k has its k-th index
  pub stations : length ch.stations ≡ length S.indexes
  pub indexes : (k : ℕ) → k < length S.indexes → (station_at ch.stations k).index ≡ index S k
  -- each station's counters are the lengths of the plain queues, its Open marks, next group, calendar and position the plain ones
  pub counters : (k : ℕ) → k < length S.indexes → CountersShow S p (station_at ch.stations k)
  -- so all stations have equal counters
  pub equal : (i k : ℕ) → i < length S.indexes → k < length S.indexes
      → (station_at ch.stations i).counters ≡ (station_at ch.stations k).counters
  -- the condition of each of a station's two records is its message's: held, fresh, asked, or its position in its queue; free if none is
  -- held or waits
  pub short : (k : ℕ) → k < length S.indexes → (station_at ch.stations k).short.condition ≡ condition_of S p (short_record k)
  pub long : (k : ℕ) → k < length S.indexes → (station_at ch.stations k).long.condition ≡ condition_of S p (long_record k)
  -- a stretch, which only a long record has: its segments there, one by one
  pub stretch : (k f l t i : ℕ) → k < length S.indexes → (station_at ch.stations k).long.condition ≡ Long f l t → i < l
      → ((segment_at p (f + i)).message.station ≡ k) × ((segment_at p (f + i)).number ≡ t - l + 1 + i)
  -- each wire minislot is the OR over the messages asking there
  pub wire : (g j : ℕ) → 1 ≤ g → g ≤ 8 → 1 ≤ j → j ≤ 8
      → get_or (get_or ch.wire (g - 1) blank_row).minislots (j - 1) silent ≡ together (map carries (map (request_of S) (asking_at p g j)))
  -- each answer is the plain channel's
  pub answers : channel_answers begun calls ≡ plain_answers S (plain_start S) calls
  -- 14 and 18 never come, nor does 12
  pub never14 : count_of (is_refusal 14) (channel_answers begun calls) ≡ 0
  pub never18 : count_of (is_refusal 18) (channel_answers begun calls) ≡ 0
  pub never12 : count_of (is_refusal 12) (channel_answers begun calls) ≡ 0
  -- for in the next slot too each station hears itself as it must
  pub hears : (k : ℕ) → k < length S.indexes
      → hears_itself (station_at ch.stations k) (words_of (heard_row ch)) (feedback_heard ch) ≡ true
  -- every urgent place has one message; the long queue is divided without gap or overlap; every place in a resolution queue has two
  -- different stations or more
  pub sound : Sound ch.stations ch.wire
  -- of each slot that went through: an owned one has exactly one sender, its owner; of the others, outside open access exactly one sender
  -- if either transmission queue holds a place once its row is counted, else none
  pub senders : SenderRule begun calls
  -- every message taken is told apart from every other
  pub apart : (i : ℕ) → i < length p.taken → (message_at p i).serial ≡ i
  -- of each message taken: its first slots delivered, each once and in order, the rest wait in its record
  pub messages : (i : ℕ) → i < length p.taken
      → MessageShows p ch (message_at p i)
  -- the plain channel's test for 9, which goes by totals, says what the paper says: a message of that station and kind is held or not all
  -- delivered
  pub nine : (k : ℕ) → (in_use p k ≡ true → IsHeld p k ⊎ NotAllDelivered p k) × (IsHeld p k ⊎ NotAllDelivered p k → in_use p k ≡ true)
  -- a record holds no more than one message at a time
  pub once : (k : ℕ) → length (of k p.held) ≤ 1
  -- in total taken = delivered + waiting: delivered counted from the history, waiting from the conditions of both records of each station;
  -- slots that are held are in neither
  pub ledger : slot_sum p.taken
      ≡ length p.history + sum_of (λ (s : Station). waiting s.short.condition + waiting s.long.condition) ch.stations
  -- and the answers' own sums are these: all that the offers and the commits took, all that the slots delivered
  pub taken : sum_of taken_in (channel_answers begun calls) ≡ slot_sum p.taken
  pub delivered : sum_of delivered_in (channel_answers begun calls) ≡ length p.history

-- after a list of calls: of the channel and the plain channel that it leaves
abbrev pub Demand3After : Start → Channel → List Call → Type 0
Demand3After S begun calls = Demand3 S begun calls (channel_after begun calls) (plain_after S (plain_start S) calls)

-- for every channel before, every start that goes through, every list of calls
abbrev pub Demand3Holds : Type 0
Demand3Holds = (before : Channel) (m n : ℕ) (indexes : List ℕ) → (channel_start_of before m n indexes).answer ≡ Ready → (calls : List Call)
    → Demand3After (record { m = m; n = n; indexes = indexes }) (channel_start_of before m n indexes).state calls
