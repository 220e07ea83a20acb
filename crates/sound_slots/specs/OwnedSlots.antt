-- An owned slot of any sound table, one that no start leads to too (paper 02, T-02): the turn names the owner, which is the one sender,
-- with its stream; no station sends a segment of its message, and only the row that was heard delivers. Assumes nothing.
use Rattle.std.specs.Prelude.{◌≡◌, List, ℕ, ◌<◌, length, get_or}
use Rattle.std.proofs.Math.Option.{some}
use Rattle.rules.specs.declared.Turn.{Turn}
use Rattle.rules.specs.declared.Turn.TheVariants.{Owned as OwnedTurn}
use Rattle.rules.specs.declared.Answer.TheVariants.{Went}
use Rattle.rules.specs.declared.SlotAnswer.{SlotAnswer}
use Rattle.rules.specs.declared.SlotAnswer.TheVariants.{Went as WentSlot, Refused as RefusedSlot}
use Rattle.rules.specs.Calendars.{owner_of}
use Rattle.rules.specs.Hearing.{words_of, counts_of}
use Rattle.rules.specs.StationCalls.{slot_of}
use Rattle.channel_rules.specs.Soundness.{table_counters}
use Rattle.channel_rules.specs.SoundMeaning.{station_at}
use Rattle.channel_rules.specs.ChannelCalls.{Channel, heard_row, outcome_heard, channel_slot_of}

-- the segment that a station's slot sends
abbrev pub segment_of : SlotAnswer → ℕ
segment_of (WentSlot turn minislot segment) = segment
segment_of (RefusedSlot n) = 0

-- x is the owner; the others are the answer's values
pub record OwnedSlot (ch : Channel) (picks : List ℕ) (x : ℕ) (turn : Turn) (senders lone segment delivered : ℕ) : Type 0 where
  pub named : turn ≡ OwnedTurn x
  pub alone : senders ≡ 1
  pub owner : lone ≡ x
  pub stream : segment ≡ 0
  pub no-message : (k : ℕ) → k < length ch.stations
      → segment_of (slot_of (station_at ch.stations k) (words_of (heard_row ch)) (counts_of (heard_row ch)) (get_or picks k 0)).answer ≡ 0
  -- an immediate success of the group's last slot
  pub row-only : delivered ≡ (outcome_heard ch).delivered

-- of every slot of every channel that goes through and whose position has an owner
abbrev pub OwnedSlotsHold : Type 0
OwnedSlotsHold = (ch : Channel) (picks : List ℕ) (x : ℕ) → owner_of (table_counters ch.stations) ≡ some x → (turn : Turn) (n i s d : ℕ)
    → (channel_slot_of ch picks).answer ≡ Went turn n i s d → OwnedSlot ch picks x turn n i s d
