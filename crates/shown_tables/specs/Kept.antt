-- What holds of every list of calls from any sound table, whether or not a start leads to it: the table stays sound, with as many stations
-- and the same m, and so a slot with one pick a station, each of 1 to m, goes through. Assumes nothing.
use Rattle.std.specs.Prelude.{◌≡◌, true, List, ℕ, length}
use Rattle.rules.specs.Calls.{Call}
use Rattle.channel_rules.specs.Soundness.{table_counters, sound_table}
use Rattle.channel_rules.specs.ChannelCalls.{Channel, has_stations, channel_after, channel_slot_number_of}
use Rattle.coming_rules.specs.ComingHolds.{Picks}

-- 1 to 64 stations, and sound
abbrev pub IsSound : Channel → Type 0
IsSound ch = (has_stations ch.stations ≡ true) × (sound_table ch.stations ch.wire ≡ true)

-- THE TABLE STAYS SOUND
abbrev pub StaysSound : Type 0
StaysSound = (ch : Channel) → has_stations ch.stations ≡ true → sound_table ch.stations ch.wire ≡ true → (calls : List Call)
    → IsSound (channel_after ch calls)

-- with as many stations and the same m
abbrev pub KeepsSize : Type 0
KeepsSize = (ch : Channel) → has_stations ch.stations ≡ true → sound_table ch.stations ch.wire ≡ true → (calls : List Call)
    → (length (channel_after ch calls).stations ≡ length ch.stations)
    × ((table_counters (channel_after ch calls).stations).minislots ≡ (table_counters ch.stations).minislots)

-- A SLOT GOES THROUGH after every list of calls, if its picks fit the table that the list begins at
abbrev pub SlotGoes : Type 0
SlotGoes = (ch : Channel) → has_stations ch.stations ≡ true → sound_table ch.stations ch.wire ≡ true → (calls : List Call)
    → (picks : List ℕ) → Picks ch picks → channel_slot_number_of (channel_after ch calls) picks ≡ 0
