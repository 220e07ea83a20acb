-- A channel's slot judged before any station steps: its number in order of checking, and the outcome that every station steps by (paper 01,
-- "A channel's slot"). Assumes nothing.
use Rattle.std.specs.Prelude.{◌≡◌, true, List, ℕ, length, replicate}
use Rattle.rules.specs.declared.Counters.{Counters}
use Rattle.rules.specs.declared.Outcome.{Outcome}
use Rattle.rules.specs.declared.Turn.TheVariants.{Open as OpenTurn}
use Rattle.rules.specs.declared.WireRow.{WireRow}
use Rattle.rules.specs.declared.Landing.TheVariants.{Gone}
use Rattle.rules.specs.Landing.{at}
use Rattle.rules.specs.Refusing.{by_number}
use Rattle.channel_rules.specs.Soundness.{sound_table, table_counters}
use Rattle.rules.specs.Starting.{no_counters}
use Rattle.channel_rules.specs.ChannelCalls.{Channel, has_stations, outcome_heard, channel_slot_number_of}
use Rattle.calls.specs.declared.Judged.{Judged}

-- a refused slot has no outcome: nobody steps
abbrev pub no_outcome : Outcome
no_outcome = record { group = 0; turn = OpenTurn; resolution = 0; landed = replicate 8 (at Gone); counters = no_counters; delivered = 0 }

abbrev pub judged_refused : ℕ → Judged
judged_refused n = record { number = n; steps = 0; outcome = no_outcome }

-- A SLOT JUDGED: with 0 every station steps by the outcome
unfoldable pub judged_of : Channel → List ℕ → Judged
judged_of ch picks =
    by_number (channel_slot_number_of ch picks) judged_refused
    (record { number = 0; steps = length ch.stations; outcome = outcome_heard ch })

-- a sound channel of n stations that share these counters, on this wire
pub record SoundOn (c : Counters) (n : ℕ) (wire : List WireRow) (ch : Channel) : Type 0 where
  pub counters : table_counters ch.stations ≡ c
  pub count : length ch.stations ≡ n
  pub row : ch.wire ≡ wire
  pub some : has_stations ch.stations ≡ true
  pub sound : sound_table ch.stations ch.wire ≡ true

-- how any of these is judged
abbrev pub JudgedOn : Counters → ℕ → List WireRow → List ℕ → Judged → Type 0
JudgedOn c n wire picks r = (ch : Channel) → SoundOn c n wire ch → r ≡ judged_of ch picks
