-- The number of asking for the coming slots, one law for each test that fails and one where none does; the same of the table by value; and
-- what is known where it goes through. Assumes nothing.
use mathlib.Core.Path.{◌≡◌, refl}
use mathlib.Core.Bool.{true, false}
use mathlib.Core.List.{List}
use Prim.Native.Nat.{ℕ, ◌≤◌}
use lib.ListN.{length, take}
use Rattle.rules.specs.declared.Station.{Station}
use Rattle.rules.specs.declared.WireRow.{WireRow}
use Rattle.rules.specs.Limits.{between}
use Rattle.rules.specs.Refusing.{unless}
use Rattle.rules.proofs.LimitLaws.{between-bounds}
use Rattle.rules.proofs.Refusals.{test_passed}
use Rattle.channel_rules.specs.Soundness.{sound_table}
use Rattle.channel_rules.specs.ChannelCalls.{Channel, has_stations}
use Rattle.calls.specs.ByValue.{array_table, array_channel}
use Rattle.calls.proofs.ByValue.{few_true, array-some, array-sound}
use Rattle.coming_rules.specs.Coming.{coming_number_of}

module _ (ch : Channel) (w : ℕ) where
  coming_14 : has_stations ch.stations ≡ false → 14 ≡ coming_number_of ch w
  unfolding coming_number_of
  coming_14 e = rw e

  module _ (some : has_stations ch.stations ≡ true) where
    coming_18 : sound_table ch.stations ch.wire ≡ false → 18 ≡ coming_number_of ch w
    unfolding coming_number_of
    coming_18 e = rw (some, e)

    module _ (sound : sound_table ch.stations ch.wire ≡ true) where
      coming_23 : between 1 w 1024 ≡ false → 23 ≡ coming_number_of ch w
      unfolding coming_number_of
      coming_23 e = rw (some, sound, e)

      coming_0 : between 1 w 1024 ≡ true → 0 ≡ coming_number_of ch w
      unfolding coming_number_of
      coming_0 e = rw (some, sound, e)

-- ---- the table by value

module _ (stations : List Station) (n : ℕ) (wire : List WireRow) (w : ℕ) (full : length stations ≡ 64) where
  abbrev ch : Channel
  ch = array_channel stations n wire

  pub array_14 : between 1 n 64 ≡ false → 14 ≡ coming_number_of (array_channel stations n wire) w
  array_14 e = coming_14 ch w (array-some stations n full false e)

  module _ (ok : between 1 n 64 ≡ true) where
    some : has_stations (array_table stations n) ≡ true
    some = array-some stations n full true ok

    most : n ≤ 64
    most = (few_true n ok).1

    pub array_18 : sound_table (take n stations) wire ≡ false → 18 ≡ coming_number_of (array_channel stations n wire) w
    array_18 e = coming_18 ch w some (array-sound stations n full most wire false e)

    module _ (passed : sound_table (take n stations) wire ≡ true) where
      sound : sound_table (array_table stations n) wire ≡ true
      sound = array-sound stations n full most wire true passed

      pub array_23 : between 1 w 1024 ≡ false → 23 ≡ coming_number_of (array_channel stations n wire) w
      array_23 e = coming_23 ch w some sound e

      pub array_0 : between 1 w 1024 ≡ true → 0 ≡ coming_number_of (array_channel stations n wire) w
      array_0 e = coming_0 ch w some sound e

-- ---- WHERE IT GOES THROUGH all three tests have passed

pub record Passed (ch : Channel) (w : ℕ) : Type 0 where
  pub some : has_stations ch.stations ≡ true
  pub sound : sound_table ch.stations ch.wire ≡ true
  pub least : 1 ≤ w
  pub most : w ≤ 1024

pub coming-passed : (ch : Channel) (w : ℕ) → coming_number_of ch w ≡ 0 → Passed ch w
unfolding coming_number_of
coming-passed ch w e =
    let a = test_passed (has_stations ch.stations) 14 (unless (sound_table ch.stations ch.wire) 18 (unless (between 1 w 1024) 23 0)) refl e in
    let b = test_passed (sound_table ch.stations ch.wire) 18 (unless (between 1 w 1024) 23 0) refl a.1 in
    let c = between-bounds 1 w 1024 (test_passed (between 1 w 1024) 23 0 refl b.1).0 in
    record { some = a.0; sound = b.0; least = c.0; most = c.1 }
