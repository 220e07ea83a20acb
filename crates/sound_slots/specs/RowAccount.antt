-- Demand 2's account of the row (paper 01, "Minislots and patterns"): what the stations transmit in a slot makes the group's new row, and
-- read back it shows who spoke alone, for how many slots, and where two or more spoke. It covers rows without clicks (paper 02, T-01): in
-- a row with clicks a Collide may stand for one station or none, and of such a row nothing is said here. No row that only stations wrote
-- has one: the field `no_click`, and specs/NoClicks of all that stands on a channel's wire. Assumes nothing.
use Rattle.std.specs.Prelude.{◌≡◌, List, map, ℕ, ◌-◌, ◌≤◌, length, get_or}
use Rattle.minislot.specs.declared.Minislot.{Minislot}
use Rattle.minislot.specs.declared.Reading.TheVariants.{Heard}
use Rattle.minislot.specs.Click.{Click}
use Rattle.minislot.specs.Reading.{reading_of}
use Rattle.requests.specs.Together.{carries, silent, together, spoken}
use Rattle.rules.specs.declared.StationSlot.{StationSlot}
use Rattle.rules.specs.Hearing.{words_of, counts_of}
use Rattle.rules.specs.declared.Turn.{Turn}
use Rattle.channel_rules.specs.Soundness.{table_counters}
use Rattle.channel_rules.specs.ChannelCalls.{Channel, blank_row, heard_row, slots_of, requests_in, channel_slot_of}
use Rattle.rules.specs.declared.Answer.TheVariants.{Went}

-- results are the stations' slots, row the group's new row; `requests_in j results` are the requests (index and whole slot count) sent in
-- minislot j
pub record RowAccount (results : List StationSlot) (row : List Minislot) : Type 0 where
  pub size : length row ≡ 8
  -- each minislot is the OR of the words and counts sent there
  pub made : (j : ℕ) → 1 ≤ j → j ≤ 8 → get_or row (j - 1) silent ≡ together (map carries (requests_in j results))
  -- and reads as Empty, as the one that spoke alone with its slots, or as Collide
  pub read : (j : ℕ) → 1 ≤ j → j ≤ 8
      → reading_of (get_or row (j - 1) silent).word (get_or row (j - 1) silent).count ≡ Heard (spoken (requests_in j results))
  -- and is no click: a Collide has seven to twelve ones
  pub no_click : (j : ℕ) → 1 ≤ j → j ≤ 8 → Click (get_or row (j - 1) silent).word → ⊥

-- of every slot of every channel that goes through
abbrev pub RowAccountHolds : Type 0
RowAccountHolds = (ch : Channel) (picks : List ℕ) (turn : Turn) (n i s d : ℕ) → (channel_slot_of ch picks).answer ≡ Went turn n i s d
    → RowAccount (slots_of (words_of (heard_row ch)) (counts_of (heard_row ch)) ch.stations picks)
    (get_or (channel_slot_of ch picks).state.wire ((table_counters ch.stations).next - 1) blank_row).minislots
