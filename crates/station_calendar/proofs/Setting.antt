-- Setting a station's calendar, by the tests in their order: 18 outside the limits, then the number that refuses the entries, else the
-- record with them. Assumes nothing.
use mathlib.Core.Path.{◌≡◌}
use mathlib.Core.Bool.{true, false}
use mathlib.Core.List.{List}
use mathlib.Core.Logic.{◌≢◌}
use Prim.Native.Nat.{ℕ}
use borrow.Author.Tests.{eq-eqb, ne_eqb}
use Rattle.rules.specs.declared.CalendarAnswer.TheVariants.{Set}
use Rattle.rules.specs.declared.Station.{Station}
use Rattle.rules.specs.StationLimits.{station_within}
use Rattle.rules.specs.Settings.{entries_number_of, calendar_on, refused_setting, station_calendar_number_of, station_calendar_of}

module _ (s : Station) (entries : List ℕ) where
  pub set_18 : station_within s ≡ false → refused_setting s 18 ≡ station_calendar_of s entries
  unfolding station_calendar_of station_calendar_number_of
  set_18 e = rw e

  module _ (within : station_within s ≡ true) (n : ℕ) (is : n ≡ entries_number_of entries) where
    pub set-refused : n ≢ 0 → refused_setting s n ≡ station_calendar_of s entries
    unfolding station_calendar_of station_calendar_number_of
    set-refused some = rw (within, ← is, ne_eqb n 0 some)

    pub set-through : n ≡ 0 → record { answer = Set; station = calendar_on entries s } ≡ station_calendar_of s entries
    unfolding station_calendar_of station_calendar_number_of
    set-through none = rw (within, ← is, eq-eqb n 0 none)
