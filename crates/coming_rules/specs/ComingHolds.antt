-- What is shown of the run that a list of coming senders is defined by (paper 02, T-07), of every channel of 1 to 64 stations whose
-- table is sound, one that no start leads to too. Assumes nothing.
use Rattle.std.specs.Prelude.{◌≡◌, true, List, [], ◌∷◌, map, ◌≢◌, ℕ, ◌≤◌, ◌<◌, length}
use Rattle.std.proofs.Math.Option.{some}
use Rattle.std.specs.List.{list_all}
use Rattle.rules.specs.declared.Turn.{Turn}
use Rattle.rules.specs.declared.Answer.TheVariants.{Went}
use Rattle.rules.specs.Calls.{Slot}
use Rattle.rules.specs.Calendars.{owner_of}
use Rattle.rules.specs.Limits.{between}
use Rattle.channel_rules.specs.Soundness.{sound_table, table_counters}
use Rattle.channel_rules.specs.ChannelCalls.{Channel, has_stations, channel_slot_number_of, channel_slot_of, channel_after, channel_answers}
use Rattle.coming_rules.specs.Quiet.{quieted}
use Rattle.coming_rules.specs.Coming.{slots_on, quiet_after, places_in, coming_until}

-- picks that a slot of the channel takes: one a station, each of 1 to m
pub record Picks (ch : Channel) (picks : List ℕ) : Type 0 where
  pub all : length picks ≡ length ch.stations
  pub within : list_all (λ (pick : ℕ). between 1 pick (table_counters ch.stations).minislots) picks ≡ true

-- of each slot of a list
abbrev pub AllPicks : Channel → List (List ℕ) → Type 0
AllPicks ch [] = Unit {0}
AllPicks ch (picks ∷ lists) = Picks ch picks × AllPicks ch lists

pub record ComingHolds (ch : Channel) : Type 0 where
  -- the quieted channel is sound
  pub sound : sound_table (quieted ch).stations (quieted ch).wire ≡ true
  -- every slot of it goes through, after however many slots
  pub goes : (n : ℕ) (picks : List ℕ) → Picks ch picks → channel_slot_number_of (quiet_after ch n) picks ≡ 0
  -- the picks don't matter: slots with any picks answer alike, and leave the same table and wire
  pub answers : (lists : List (List ℕ)) → AllPicks ch lists
      → channel_answers (quieted ch) (map Slot lists) ≡ channel_answers (quieted ch) (slots_on ch (length lists))
  pub leaves : (lists : List (List ℕ)) → AllPicks ch lists
      → channel_after (quieted ch) (map Slot lists) ≡ quiet_after ch (length lists)
  -- in each slot one station sends data or none does; in an owned one the owner does
  pub alone : (n : ℕ) (picks : List ℕ) (turn : Turn) (senders i s d : ℕ)
      → (channel_slot_of (quiet_after ch n) picks).answer ≡ Went turn senders i s d → senders ≤ 1
  pub owner : (n x : ℕ) (picks : List ℕ) (turn : Turn) (senders i s d : ℕ) → owner_of (table_counters (quiet_after ch n).stations) ≡ some x
      → (channel_slot_of (quiet_after ch n) picks).answer ≡ Went turn senders i s d → (senders ≡ 1) × (i ≡ x)
  -- after as many slots as the number says H and N are 0, and after no fewer
  pub ends : places_in (quiet_after ch (coming_until ch)) ≡ 0
  pub first : (k : ℕ) → k < coming_until ch → places_in (quiet_after ch k) ≢ 0

-- of every channel of 1 to 64 stations whose table is sound
abbrev pub ComingHold : Type 0
ComingHold = (ch : Channel) → has_stations ch.stations ≡ true → sound_table ch.stations ch.wire ≡ true → ComingHolds ch
