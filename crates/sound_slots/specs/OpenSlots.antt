-- What an open slot sends, and what its row shows of it (paper 02, T-05): on an open turn only requests of one slot send data. So if the
-- row that the stations make in it has no Collide and exactly one Single of count 1, then exactly one station sent data, and it is the
-- station of that Single, however many long requests stand beside it: its data arrived whole. That is why such a row, heard with Open yes,
-- is immediate success (`immediate`, rules/specs/Queueing). Of every slot of any sound table that goes through. Assumes nothing.
use Rattle.std.specs.Prelude.{◌≡◌, List, ℕ, ◌-◌, ◌≤◌, length, get_or, take}
use Rattle.minislot.specs.declared.Feedback.{Feedback}
use Rattle.minislot.specs.declared.Feedback.TheVariants.{Empty, Single}
use Rattle.rows.specs.Row.{readings, feedbacks}
use Rattle.rules.specs.declared.Turn.TheVariants.{Open as OpenTurn}
use Rattle.rules.specs.declared.Answer.TheVariants.{Went}
use Rattle.rules.specs.Hearing.{words_of, counts_of}
use Rattle.rules.specs.RowCounts.{short_singles, collides}
use Rattle.channel_rules.specs.Soundness.{table_counters}
use Rattle.channel_rules.specs.ChannelCalls.{Channel, blank_row, channel_slot_of}

-- the row that the stations make in a slot, as its group's next slot reads it: the first m minislots that the slot leaves on the wire
abbrev pub row_made : Channel → List ℕ → List Feedback
row_made ch picks =
    let c = table_counters ch.stations in
    let row = take c.minislots (get_or (channel_slot_of ch picks).state.wire (c.next - 1) blank_row).minislots in
    feedbacks (readings (words_of row) (counts_of row))

-- senders, lone and segment are the answer's values
pub record OneSent (row : List Feedback) (senders lone segment : ℕ) : Type 0 where
  -- exactly one sender, with the one segment of its message
  pub alone : senders ≡ 1
  pub first : segment ≡ 1
  -- its Single of count 1 stands in a minislot of the row
  pub which : ℕ
  pub inside : (1 ≤ which) × (which ≤ length row)
  pub shown : get_or row (which - 1) Empty ≡ Single lone 1
  -- and every Single of count 1 there is its own
  pub own : (j x : ℕ) → get_or row (j - 1) Empty ≡ Single x 1 → x ≡ lone

-- of every slot of every channel that goes through on an open turn
abbrev pub OpenSlotsHold : Type 0
OpenSlotsHold = (ch : Channel) (picks : List ℕ) (n i s d : ℕ) → (channel_slot_of ch picks).answer ≡ Went OpenTurn n i s d
    → collides (row_made ch picks) ≡ 0 → short_singles (row_made ch picks) ≡ 1 → OneSent (row_made ch picks) n i s
