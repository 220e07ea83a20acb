-- `set_calendar` gives 18, 20 or 21, or the station with the entries. Assumes nothing.
use mathlib.Core.Path.{◌∙◌, sym}
use native.Mathlib.Omega.{arith}
use Rattle.station_calendar.proofs.Told.{set_both}
use Rattle.station_calendar.proofs.Setting.{set_18, set-refused, set-through}
use Rattle.station_calendar.proofs.set_calendar.Goals as goal

pub returns-then-not-within : goal.returns-then-not-within
returns-then-not-within c =
    let both = set_both _ _ (c.refused_calendar.ensures ∙ set_18 _ _ (sym c.within.ensures ∙ c.if-not-within.true)) in
    record { left = both.0; told = both.1 }

pub returns-then-number-ne0 : goal.returns-then-number-ne0
returns-then-number-ne0 c =
    let within = sym c.within.ensures ∙ c.if-not-within.false in
    let both = set_both _ _ (c.refused_calendar-then-number-ne0.ensures ∙ set-refused _ _ within _ c.entries_number-number.ensures c.if-number-ne0.true) in
    record { left = both.0; told = both.1 }

pub returns : goal.returns
returns c =
    let within = sym c.within.ensures ∙ c.if-not-within.false in
    let both = set_both _ _ (rw c.calendar_on.ensures (set-through _ _ within _ c.entries_number-number.ensures (omega (arith, c.if-number-ne0.false)))) in
    record { left = both.0; told = both.1 }
