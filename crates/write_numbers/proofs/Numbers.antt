-- The number of a writing, one law for each test that fails, and what its tests say where it is 0. Assumes nothing.
use mathlib.Core.Path.{◌≡◌, refl, sym, ap, ◌∙◌}
use mathlib.Core.Bool.{true, false}
use mathlib.Core.List.{List}
use Prim.Native.Nat.{ℕ, ◌≤◌, ◌<◌}
use native.Mathlib.Omega.{arith}
use lib.ListN.{length, get_or, take}
use borrow.Author.Tests.{lt-ltb, le-ltb, ltb-true}
use Rattle.rules.specs.declared.Station.{Station}
use Rattle.rules.specs.declared.WireRow.{WireRow}
use Rattle.rules.specs.Limits.{between}
use Rattle.channel_rules.specs.Soundness.{position_of, is_on_table, sound_table}
use Rattle.rules.specs.StationCalls.{no_station}
use Rattle.rules.specs.declared.Writing.{Writing}
use Rattle.rules.specs.Writing.{writing_number_of}
use Rattle.channel_rules.specs.ChannelCalls.{Channel, has_stations, channel_write_number_of}
use Rattle.rules.proofs.Refusals.{test_passed}
use Rattle.table.specs.Loading.{absent}
use Rattle.calls.specs.ByValue.{array_table, array_channel}
use Rattle.calls.proofs.ByValue.{few_true, array-length, array-first, array_at, array-some, array-sound}

-- every test of a writing that goes through
pub record Passed (ch : Channel) (index : ℕ) (w : Writing) : Type 0 where
  pub some : has_stations ch.stations ≡ true
  pub known : position_of index ch.stations < length ch.stations
  pub takes : writing_number_of (get_or ch.stations (position_of index ch.stations) no_station) w ≡ 0

module _ (ch : Channel) (index : ℕ) (w : Writing) where
  pub write-passed : channel_write_number_of ch index w ≡ 0 → Passed ch index w
  unfolding channel_write_number_of
  write-passed z =
      let p14 = test_passed (has_stations ch.stations) 14 _ refl z in
      let p18 = test_passed (sound_table ch.stations ch.wire) 18 _ refl p14.1 in
      let p16 = test_passed (is_on_table ch.stations index) 16 _ refl p18.1 in
      record {
        some = p14.0;
        known = ltb-true (position_of index ch.stations) (length ch.stations) p16.0;
        takes = p16.1;
      }

  pub write_14 : has_stations ch.stations ≡ false → 14 ≡ channel_write_number_of ch index w
  unfolding channel_write_number_of
  write_14 e = rw e

  module _ (some : has_stations ch.stations ≡ true) where
    pub write_18 : sound_table ch.stations ch.wire ≡ false → 18 ≡ channel_write_number_of ch index w
    unfolding channel_write_number_of
    write_18 e = rw (some, e)

    module _ (sound : sound_table ch.stations ch.wire ≡ true) where
      pub write_16 : length ch.stations ≤ position_of index ch.stations → 16 ≡ channel_write_number_of ch index w
      unfolding channel_write_number_of
      write_16 h = rw (some, sound, le-ltb (position_of index ch.stations) (length ch.stations) h)

      pub write-takes : position_of index ch.stations < length ch.stations
          → writing_number_of (get_or ch.stations (position_of index ch.stations) no_station) w ≡ channel_write_number_of ch index w
      unfolding channel_write_number_of
      write-takes h = rw (some, sound, lt-ltb (position_of index ch.stations) (length ch.stations) h)

-- ---- the table by value, and a position that was found

module _ (stations : List Station) (n : ℕ) (wire : List WireRow) (index : ℕ) (w : Writing) (full : length stations ≡ 64) where
  pub array_14 : between 1 n 64 ≡ false → 14 ≡ channel_write_number_of (array_channel stations n wire) index w
  array_14 e = write_14 (array_channel stations n wire) index w (array-some stations n full false e)

  module _ (ok : between 1 n 64 ≡ true) where
    most : n ≤ 64
    most = (few_true n ok).1

    pub array_18 : sound_table (take n stations) wire ≡ false → 18 ≡ channel_write_number_of (array_channel stations n wire) index w
    array_18 e = write_18 (array_channel stations n wire) index w (array-some stations n full true ok) (array-sound stations n full most wire false e)

    module _ (k : ℕ) (found : k ≡ position_of index (take n stations)) where
      pub found-is : k ≡ position_of index (array_table stations n)
      found-is = found ∙ ap (position_of index) (sym (array-first stations n full most))

      module _ (sound : sound_table (take n stations) wire ≡ true) where
        pub array_16 : n ≤ k → 16 ≡ channel_write_number_of (array_channel stations n wire) index w
        array_16 h =
            write_16 (array_channel stations n wire) index w (array-some stations n full true ok) (array-sound stations n full most wire true sound)
            (omega (arith, array-length stations n full, found-is))

        pub array-takes : k < n → writing_number_of (get_or stations k absent) w ≡ channel_write_number_of (array_channel stations n wire) index w
        array-takes h =
            ap (λ (s : Station). writing_number_of s w) (array_at stations n full most k h)
            ∙ ap (λ (i : ℕ). writing_number_of (get_or (array_table stations n) i no_station) w) found-is
            ∙ write-takes (array_channel stations n wire) index w (array-some stations n full true ok) (array-sound stations n full most wire true sound)
            (omega (arith, array-length stations n full, found-is))

  -- a writing that goes through
  module _ (none : channel_write_number_of (array_channel stations n wire) index w ≡ 0) where
    passed : Passed (array_channel stations n wire) index w
    passed = write-passed (array_channel stations n wire) index w none

    pub passed-most : n ≤ 64
    passed-most = omega (arith, (few_true (length (array_table stations n)) passed.some).1, array-length stations n full)

    module _ (k : ℕ) (found : k ≡ position_of index (take n stations)) where
      pub passed-found : k ≡ position_of index (array_table stations n)
      passed-found = found ∙ ap (position_of index) (sym (array-first stations n full passed-most))

      pub passed-known : k < n
      passed-known = omega (arith, passed.known, array-length stations n full, passed-found)

      pub passed-takes : writing_number_of (get_or stations k absent) w ≡ 0
      passed-takes =
          ap (λ (s : Station). writing_number_of s w) (array_at stations n full passed-most k passed-known)
          ∙ ap (λ (i : ℕ). writing_number_of (get_or (array_table stations n) i no_station) w) passed-found
          ∙ passed.takes
