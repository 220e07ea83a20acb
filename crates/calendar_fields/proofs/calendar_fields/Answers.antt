-- `calendar_fields` meets its contract: a calendar read by way of a list of numbers. Assumes nothing.
use borrow.Author.Tests.{eq-eqb, ne_eqb}
use mathlib.Core.Path.{ap, sym, ◌∙◌}
use Rattle.calendar_fields.specs.CalendarFields.{calendar_with}
use Rattle.calendar_fields.proofs.CalendarReads.{calendar-read}
use Rattle.calendar_fields.proofs.calendar_fields.Goals as goal

pub returns-in_err-list : goal.returns-in_err-list
returns-in_err-list c =
    c.from_residual.ensures ∙ ap calendar_with (sym c.in_err-list.was ∙ c.numbers_from.ensures.list) ∙ calendar-read _

pub returns-then-list-ne-POSITIONS : goal.returns-then-list-ne-POSITIONS
returns-then-list-ne-POSITIONS c =
    let told = ap calendar_with (sym c.in_ok-list.was ∙ c.numbers_from.ensures.list) ∙ calendar-read _ in
    rw (ne_eqb _ _ c.if-list-ne-POSITIONS.true) at told

pub returns : goal.returns
returns c =
    let told = ap calendar_with (sym c.in_ok-list.was ∙ c.numbers_from.ensures.list) ∙ calendar-read _ in
    rw c.first_entries.ensures (rw (eq-eqb _ _ c.if-list-ne-POSITIONS.false) at told)
