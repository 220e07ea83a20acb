-- The slots of a list of calls as waiting is counted (paper 02, T-08: "counting from the next slot taken"): those that go through, one
-- after the other; a refused slot is none, and neither is an offer, a hold, a commit, a withdrawal or a calendar. Assumes nothing.
use Rattle.std.specs.Prelude.{◌≡◌, Bool, true, false, ◌&&◌, cond, List, [], ◌∷◌, ◌++◌, ℕ, ◌+◌, ◌-◌, ◌≤◌, eqb, length, get_or}
use Rattle.std.proofs.Math.Option.{Option, none, some}
use Rattle.listlaws.specs.Lists.{count_of, only_if}
use Rattle.rules.specs.declared.Answer.{Answer}
use Rattle.rules.specs.declared.Answer.TheVariants.{Refused, Taken, OnHold, Committed, Withdrawn, Set, Went}
use Rattle.rules.specs.declared.Condition.{Condition}
use Rattle.rules.specs.declared.Turn.{Turn}
use Rattle.rules.specs.declared.Turn.TheVariants.{Owned as OwnedTurn, Urgent as UrgentTurn, Long as LongTurn}
use Rattle.rules.specs.declared.Turn.TheVariants.{Resolve as ResolveTurn, Open as OpenTurn}
use Rattle.rules.specs.Calendars.{owner_of}
use Rattle.rules.specs.Calls.{Call, Write, Slot, Calendar}
use Rattle.channel_rules.specs.Soundness.{table_counters}
use Rattle.channel_rules.specs.SoundMeaning.{station_at}
use Rattle.channel_rules.specs.ChannelCalls.{Channel, channel_slot_number_of, channel_call}

-- ---- the messages of a table: station k's short one and its long one, and its index

abbrev pub short_at : Channel → ℕ → Condition
short_at ch k = (station_at ch.stations k).short.condition

abbrev pub long_at : Channel → ℕ → Condition
long_at ch k = (station_at ch.stations k).long.condition

abbrev pub index_at : Channel → ℕ → ℕ
index_at ch k = (station_at ch.stations k).index

-- ---- the slots of a list

-- a call is a slot that goes through
abbrev pub is_taken : Channel → Call → Bool
is_taken ch (Write x w) = false
is_taken ch (Slot picks) = eqb (channel_slot_number_of ch picks) 0
is_taken ch (Calendar entries) = false

-- the coming slot has no stream owner
abbrev pub nobodys : Option ℕ → Bool
nobodys none = true
nobodys (some x) = false

abbrev pub unowned : Channel → Bool
unowned ch = nobodys (owner_of (table_counters ch.stations))

-- a call is a slot that goes through and has no stream owner
abbrev pub is_counted : Channel → Call → Bool
is_counted ch c = is_taken ch c && unowned ch

-- how many slots of a list go through
abbrev pub slots_taken : Channel → List Call → ℕ
slots_taken ch [] = 0
slots_taken ch (c ∷ l) = cond (is_taken ch c) 1 0 + slots_taken (channel_call ch c).state l

-- the answers of those that have no stream owner, in order
abbrev pub unowned_answers : Channel → List Call → List Answer
unowned_answers ch [] = []
unowned_answers ch (c ∷ l) = only_if (is_counted ch c) ((channel_call ch c).answer ∷ []) ++ unowned_answers (channel_call ch c).state l

-- number i of them, from 1
abbrev pub numbered : List Answer → ℕ → Answer
numbered answers i = get_or answers (i - 1) (Refused 0)

-- ---- what a slot's answer tells

-- one station sent data, with this index and segment, on this turn, and it was delivered
pub record Tells (turn : Turn) (index segment : ℕ) (answer : Answer) : Type 0 where
  pub delivered : ℕ
  pub some : 1 ≤ delivered
  pub told : answer ≡ Went turn 1 index segment delivered

-- an urgent turn
abbrev pub is_urgent_turn : Turn → Bool
is_urgent_turn (OwnedTurn x) = false
is_urgent_turn UrgentTurn = true
is_urgent_turn LongTurn = false
is_urgent_turn ResolveTurn = false
is_urgent_turn OpenTurn = false

abbrev pub on_urgent : Answer → Bool
on_urgent (Refused n) = false
on_urgent (Taken t) = false
on_urgent (OnHold t) = false
on_urgent (Committed t) = false
on_urgent (Withdrawn t) = false
on_urgent Set = false
on_urgent (Went turn senders index segment delivered) = is_urgent_turn turn

-- how many of the slots had one, and how many had not
abbrev pub urgent_turns : List Answer → ℕ
urgent_turns answers = count_of on_urgent answers

abbrev pub other_turns : List Answer → ℕ
other_turns answers = length answers - urgent_turns answers
