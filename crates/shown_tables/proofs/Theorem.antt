-- FROM ANY SOUND TABLE: the plain channel that shows it goes along with every list of calls, as it does from a start (demand 3), so the table stays sound, with as
-- many stations and the same m, and a slot with one pick a station, each of 1 to m, goes through. Assumes nothing.
use mathlib.Core.Path.{◌≡◌, sym, ap, ◌∙◌}
use mathlib.Core.Bool.{true}
use mathlib.Core.List.{List}
use Prim.Native.Nat.{ℕ, ◌≤◌}
use native.Mathlib.Omega.{arith}
use lib.ListN.{length, length-map}
use borrow.Author.Tests.{eq-eqb}
use Rattle.std.specs.List.{list_all}
use Rattle.rules.specs.declared.Station.{Station}
use Rattle.rules.specs.Limits.{between}
use Rattle.rules.specs.Calls.{Start, Call}
use Rattle.rules.specs.Plain.{Plain, plain_after}
use Rattle.rules.proofs.LimitLaws.{between-bounds}
use Rattle.rules.proofs.QueueingLaws.{fits_if}
use Rattle.rules.proofs.Relation.{Same}
use Rattle.rules.proofs.Shared.{Table, table_after}
use Rattle.channel_rules.specs.Soundness.{table_counters, sound_table}
use Rattle.channel_rules.specs.ChannelCalls.{Channel, has_stations, channel_after, feedback_heard, channel_slot_number_of}
use Rattle.channel_rules.proofs.Embody.{Embodies, GoodStart, same_length}
use Rattle.channel_rules.proofs.ListStep.{run-same}
use Rattle.channel_rules.proofs.SoundKept.{is_at, stays-sound}
use Rattle.channel_rules.proofs.Theorem.{run_embodies}
use Rattle.sound_slots.proofs.ChannelLaws.{start_made}
use Rattle.sound_slots.proofs.NeverSeven.{never-passes}
use Rattle.coming_rules.specs.ComingHolds.{Picks}
use Rattle.shown_tables.specs.Kept.{IsSound, StaysSound, KeepsSize, SlotGoes}
use Rattle.shown_tables.proofs.Made.{plain_made}
use Rattle.shown_tables.proofs.SharedMade.{table_shown, shown_embodies, shown-start, table-shown}

module _ (ch : Channel) (here : has_stations ch.stations ≡ true) (sound : sound_table ch.stations ch.wire ≡ true) where
  some : 1 ≤ length ch.stations
  some = (between-bounds 1 (length ch.stations) 64 here).0

  abbrev S : Start
  S = start_made ch.stations

  abbrev table : Table
  table = table_shown ch.stations

  abbrev plain : Plain
  plain = plain_made (start_made ch.stations) (table_shown ch.stations)

  pub G : GoodStart (start_made ch.stations)
  G = shown-start ch.stations ch.wire some sound (between-bounds 1 (length ch.stations) 64 here).1

  first : Same S plain table
  first = table-shown ch.stations ch.wire some sound

  begun : Embodies S table ch
  begun = shown_embodies ch.stations ch.wire some sound

  -- the relation and the records after every list of calls
  pub after_same : (calls : List Call) → Same S (plain_after S plain calls) (table_after S table calls)
  after_same calls = run-same S (omega (arith, G.m-low)) calls plain table first

  pub after_embodies : (calls : List Call) → Embodies S (table_after S table calls) (channel_after ch calls)
  after_embodies calls = run_embodies S G calls plain table ch first begun

  as_many : (calls : List Call) → length (channel_after ch calls).stations ≡ length ch.stations
  as_many calls = same_length S (table_after S table calls) (channel_after ch calls) (after_embodies calls) ∙ length-map ch.stations (λ (s : Station). s.index)

  same-m : (calls : List Call) → (table_counters (channel_after ch calls).stations).minislots ≡ (table_counters ch.stations).minislots
  same-m calls = (is_at S G (plain_after S plain calls) (table_after S table calls) (after_same calls) (channel_after ch calls) (after_embodies calls) 0 (omega (arith, as_many calls, some))).minislots

  after-sound : (calls : List Call) → IsSound (channel_after ch calls)
  after-sound calls = (
    ap (λ (n : ℕ). between 1 n 64) (as_many calls) ∙ here,
    stays-sound S G (plain_after S plain calls) (table_after S table calls) (after_same calls) (channel_after ch calls) (after_embodies calls),
  )

-- THE TABLE STAYS SOUND
pub sound-kept : StaysSound
sound-kept ch here sound calls = after-sound ch here sound calls

-- with as many stations and the same m
pub size-kept : KeepsSize
size-kept ch here sound calls = (as_many ch here sound calls, same-m ch here sound calls)

-- a slot on a sound table
goes_through_lem : (ch : Channel) → has_stations ch.stations ≡ true → sound_table ch.stations ch.wire ≡ true → (picks : List ℕ) → Picks ch picks → channel_slot_number_of ch picks ≡ 0
unfolding channel_slot_number_of
goes_through_lem ch here sound picks p =
    rw (here, sound, eq-eqb (length picks) (length ch.stations) p.all, p.within, fits_if (table_counters ch.stations) (feedback_heard ch) (never-passes ch here sound))

-- A SLOT GOES THROUGH after every list of calls
pub slot-goes : SlotGoes
slot-goes ch here sound calls picks p =
    let after = channel_after ch calls in
    let (there, kept) = after-sound ch here sound calls in
    goes_through_lem after there kept picks
    (record { all = p.all ∙ sym (as_many ch here sound calls); within = ap (λ (m : ℕ). list_all (λ (pick : ℕ). between 1 pick m) picks) (same-m ch here sound calls) ∙ p.within })
