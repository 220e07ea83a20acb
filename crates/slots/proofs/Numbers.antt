-- A slot judged, one law for each test that fails and one for a slot that goes through; and what its tests say where its number is 0. Assumes nothing.
use mathlib.Core.Path.{◌≡◌, refl}
use mathlib.Core.Bool.{true, false}
use mathlib.Core.List.{List}
use Prim.Native.Nat.{ℕ}
use lib.ListN.{length}
use borrow.Author.Tests.{eq-eqb, ne_eqb, eqb-true}
use Rattle.std.specs.List.{list_all}
use Rattle.rules.specs.Limits.{between}
use Rattle.rules.specs.Queueing.{step_one_of}
use Rattle.channel_rules.specs.Soundness.{sound_table, table_counters}
use Rattle.channel_rules.specs.ChannelCalls.{Channel, has_stations, feedback_heard, outcome_heard, channel_slot_number_of}
use Rattle.rules.proofs.Refusals.{test_passed}
use Rattle.calls.specs.declared.Judged.{Judged}
use Rattle.slots.specs.Judging.{judged_refused, judged_of}

-- every test of a slot that goes through
pub record Passed (ch : Channel) (picks : List ℕ) : Type 0 where
  pub some : has_stations ch.stations ≡ true
  pub sound : sound_table ch.stations ch.wire ≡ true
  pub same : length picks ≡ length ch.stations
  pub picked : list_all (λ (pick : ℕ). between 1 pick (table_counters ch.stations).minislots) picks ≡ true
  pub fits : (step_one_of (table_counters ch.stations) (feedback_heard ch)).fits ≡ true

module _ (ch : Channel) (picks : List ℕ) where
  pub slot-passed : channel_slot_number_of ch picks ≡ 0 → Passed ch picks
  unfolding channel_slot_number_of
  slot-passed z =
      let p14 = test_passed (has_stations ch.stations) 14 _ refl z in
      let p18 = test_passed (sound_table ch.stations ch.wire) 18 _ refl p14.1 in
      let p17 = test_passed _ 17 _ refl p18.1 in
      let p11 = test_passed _ 11 _ refl p17.1 in
      let p7 = test_passed _ 7 _ refl p11.1 in
      record { some = p14.0; sound = p18.0; same = eqb-true (length picks) (length ch.stations) p17.0; picked = p11.0; fits = p7.0 }

  pub slot_14 : has_stations ch.stations ≡ false → judged_refused 14 ≡ judged_of ch picks
  unfolding judged_of channel_slot_number_of
  slot_14 e = rw e

  module _ (some : has_stations ch.stations ≡ true) where
    pub slot_18 : sound_table ch.stations ch.wire ≡ false → judged_refused 18 ≡ judged_of ch picks
    unfolding judged_of channel_slot_number_of
    slot_18 e = rw (some, e)

    module _ (sound : sound_table ch.stations ch.wire ≡ true) where
      pub slot_17 : (length picks ≡ length ch.stations → ⊥) → judged_refused 17 ≡ judged_of ch picks
      unfolding judged_of channel_slot_number_of
      slot_17 h = rw (some, sound, ne_eqb (length picks) (length ch.stations) h)

      module _ (same : length picks ≡ length ch.stations) where
        pub slot_11 : list_all (λ (pick : ℕ). between 1 pick (table_counters ch.stations).minislots) picks ≡ false → judged_refused 11 ≡ judged_of ch picks
        unfolding judged_of channel_slot_number_of
        slot_11 e = rw (some, sound, eq-eqb (length picks) (length ch.stations) same, e)

        module _ (picked : list_all (λ (pick : ℕ). between 1 pick (table_counters ch.stations).minislots) picks ≡ true) where
          pub slot_7 : (step_one_of (table_counters ch.stations) (feedback_heard ch)).fits ≡ false → judged_refused 7 ≡ judged_of ch picks
          unfolding judged_of channel_slot_number_of
          slot_7 e = rw (some, sound, eq-eqb (length picks) (length ch.stations) same, picked, e)

          pub slot-goes : (step_one_of (table_counters ch.stations) (feedback_heard ch)).fits ≡ true
              → ◌≡◌ {A = Judged} (record { number = 0; steps = length ch.stations; outcome = outcome_heard ch }) (judged_of ch picks)
          unfolding judged_of channel_slot_number_of
          slot-goes e = rw (some, sound, eq-eqb (length picks) (length ch.stations) same, picked, e)
