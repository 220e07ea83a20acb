-- `set_calendar` gives 18, 20 or 21, or the record with the entries; and so it answers the paper's number. Assumes nothing.
use mathlib.Core.Path.{◌∙◌, sym}
use native.Mathlib.Omega.{arith}
use Rattle.listener.proofs.Tells.{sets}
use Rattle.listener.proofs.Setting.{set_18, set-refused, set-through}
use Rattle.listener.proofs.set_calendar.Goals as goal

pub returns-then-number-ne0 : goal.returns-then-number-ne0
returns-then-number-ne0 c =
    let all_told = let within = sym c.within.ensures ∙ c.if-within.true in
    sets _ _ _ (c.refused_calendar.ensures ∙ set-refused _ _ within _ c.entries_number-number.ensures c.if-number-ne0.true) in
    record { left = all_told.0; told = all_told.1 }

pub returns-then-within : goal.returns-then-within
returns-then-within c =
    let all_told = let within = sym c.within.ensures ∙ c.if-within.true in
    sets _ _ _ (rw c.with_calendar.ensures (set-through _ _ within _ c.entries_number-number.ensures (omega (arith, c.if-number-ne0.false)))) in
    record { left = all_told.0; told = all_told.1 }

pub returns : goal.returns
returns c =
    let all_told = sets _ _ _ (c.refused_calendar-2.ensures ∙ set_18 _ _ (sym c.within.ensures ∙ c.if-within.false)) in
    record { left = all_told.0; told = all_told.1 }
