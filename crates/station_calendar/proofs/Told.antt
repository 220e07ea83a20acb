-- A call that gives what its definition gives also answers the number and the values that the paper tells: both halves of its contract at once, of the
-- first. Assumes nothing.
use mathlib.Core.Path.{◌≡◌, ap, ◌∙◌}
use mathlib.Core.List.{List}
use Prim.Native.Nat.{ℕ}
use Rattle.rules.specs.declared.Station.{Station}
use Rattle.rules.specs.declared.StationSet.{StationSet}
use Rattle.rules.specs.Settings.{station_calendar_of}
use Rattle.rules.specs.Numbers.{calendar_told}
use Rattle.rules.specs.Answered.{station_calendar_told_of}
use Rattle.rules.proofs.NumbersHold.{station-calendar_told}

pub set_both : (s : Station) (entries : List ℕ) {r : StationSet} → r ≡ station_calendar_of s entries
    → (r ≡ station_calendar_of s entries) × (calendar_told r.answer ≡ station_calendar_told_of s entries)
set_both s entries e = (e, ap (λ (x : StationSet). calendar_told x.answer) e ∙ station-calendar_told s entries)
