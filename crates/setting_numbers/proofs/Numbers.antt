-- The number of a calendar, one law for each test that fails and one where none does; the same of the table by value. Assumes nothing.
use mathlib.Core.Path.{◌≡◌, ap, ◌∙◌}
use mathlib.Core.Bool.{Bool, true, false}
use mathlib.Core.List.{List}
use Prim.Native.Nat.{ℕ, ◌≤◌}
use lib.ListN.{length, take}
use Rattle.rules.specs.declared.Station.{Station}
use Rattle.rules.specs.declared.WireRow.{WireRow}
use Rattle.rules.specs.Calendars.{some_free}
use Rattle.rules.specs.Limits.{between}
use Rattle.channel_rules.specs.Soundness.{sound_table, entries_on}
use Rattle.channel_rules.specs.ChannelCalls.{Channel, has_stations, channel_calendar_number_of}
use Rattle.calls.specs.ByValue.{array_table, array_channel}
use Rattle.calls.proofs.ByValue.{few_true, array-first, array-some, array-sound}

module _ (ch : Channel) (entries : List ℕ) where
  pub calendar_14 : has_stations ch.stations ≡ false → 14 ≡ channel_calendar_number_of ch entries
  unfolding channel_calendar_number_of
  calendar_14 e = rw e

  module _ (some : has_stations ch.stations ≡ true) where
    pub calendar_18 : sound_table ch.stations ch.wire ≡ false → 18 ≡ channel_calendar_number_of ch entries
    unfolding channel_calendar_number_of
    calendar_18 e = rw (some, e)

    module _ (sound : sound_table ch.stations ch.wire ≡ true) where
      pub calendar_20 : entries_on ch.stations entries ≡ false → 20 ≡ channel_calendar_number_of ch entries
      unfolding channel_calendar_number_of
      calendar_20 e = rw (some, sound, e)

      module _ (on : entries_on ch.stations entries ≡ true) where
        pub calendar_21 : some_free entries ≡ false → 21 ≡ channel_calendar_number_of ch entries
        unfolding channel_calendar_number_of
        calendar_21 e = rw (some, sound, on, e)

        pub calendar_0 : some_free entries ≡ true → 0 ≡ channel_calendar_number_of ch entries
        unfolding channel_calendar_number_of
        calendar_0 e = rw (some, sound, on, e)

-- ---- the table by value

module _ (stations : List Station) (n : ℕ) (wire : List WireRow) (entries : List ℕ) (full : length stations ≡ 64) where
  abbrev ch : Channel
  ch = array_channel stations n wire

  pub array_14 : between 1 n 64 ≡ false → 14 ≡ channel_calendar_number_of (array_channel stations n wire) entries
  array_14 e = calendar_14 ch entries (array-some stations n full false e)

  module _ (ok : between 1 n 64 ≡ true) where
    some : has_stations (array_table stations n) ≡ true
    some = array-some stations n full true ok

    most : n ≤ 64
    most = (few_true n ok).1

    pub array_18 : sound_table (take n stations) wire ≡ false → 18 ≡ channel_calendar_number_of (array_channel stations n wire) entries
    array_18 e = calendar_18 ch entries some (array-sound stations n full most wire false e)

    on-array : (b : Bool) → entries_on (take n stations) entries ≡ b → entries_on (array_table stations n) entries ≡ b
    on-array b e = ap (λ (l : List Station). entries_on l entries) (array-first stations n full most) ∙ e

    module _ (passed : sound_table (take n stations) wire ≡ true) where
      sound : sound_table (array_table stations n) wire ≡ true
      sound = array-sound stations n full most wire true passed

      pub array_20 : entries_on (take n stations) entries ≡ false → 20 ≡ channel_calendar_number_of (array_channel stations n wire) entries
      array_20 e = calendar_20 ch entries some sound (on-array false e)

      module _ (on : entries_on (take n stations) entries ≡ true) where
        pub array_21 : some_free entries ≡ false → 21 ≡ channel_calendar_number_of (array_channel stations n wire) entries
        array_21 e = calendar_21 ch entries some sound (on-array true on) e

        pub array_0 : some_free entries ≡ true → 0 ≡ channel_calendar_number_of (array_channel stations n wire) entries
        array_0 e = calendar_0 ch entries some sound (on-array true on) e
