-- Setting a listener's calendar, by the tests in their order: 18 outside the limits, then the number that refuses the entries, else the
-- record with them. Assumes nothing.
use mathlib.Core.Path.{◌≡◌}
use mathlib.Core.Bool.{true, false}
use mathlib.Core.List.{List}
use mathlib.Core.Logic.{◌≢◌}
use Prim.Native.Nat.{ℕ}
use borrow.Author.Tests.{eq-eqb, ne_eqb}
use Rattle.rules.specs.declared.CalendarAnswer.TheVariants.{Set}
use Rattle.rules.specs.declared.Counters.{Counters}
use Rattle.rules.specs.Limits.{within_limits}
use Rattle.rules.specs.Settings.{entries_number_of, with_calendar, refused_calendar, calendar_number_of, calendar_of}

module _ (c : Counters) (entries : List ℕ) where
  pub set_18 : within_limits c ≡ false → refused_calendar c 18 ≡ calendar_of c entries
  unfolding calendar_of calendar_number_of
  set_18 e = rw e

  module _ (within : within_limits c ≡ true) (n : ℕ) (is : n ≡ entries_number_of entries) where
    pub set-refused : n ≢ 0 → refused_calendar c n ≡ calendar_of c entries
    unfolding calendar_of calendar_number_of
    set-refused some = rw (within, ← is, ne_eqb n 0 some)

    pub set-through : n ≡ 0 → record { answer = Set; counters = with_calendar entries c } ≡ calendar_of c entries
    unfolding calendar_of calendar_number_of
    set-through none = rw (within, ← is, eq-eqb n 0 none)
