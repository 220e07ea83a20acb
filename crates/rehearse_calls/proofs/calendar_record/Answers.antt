-- `calendar_record` meets its contract: the channel's call, by the entries that were read. Assumes nothing.
use mathlib.Core.Path.{sym, ◌∙◌}
use Rattle.rehearsing.proofs.Results.{as_result, calendar-broken, calendar-called}
use Rattle.rehearse_calls.proofs.calendar_record.Goals as goal

pub returns-in_default : goal.returns-in_default
returns-in_default c =
    let a = c.args in
    let told =
    as_result a.r a.next a.out.now a.at (calendar-broken a.r (sym c.calendar_fields.ensures ∙ c.in_default.is))
    (c.end_with.ensures.buffer, c.end_with.ensures.answer) in
    record { buffer = told.0; answer = told.1 }

pub returns : goal.returns
returns c =
    let a = c.args in
    let told =
    as_result a.r a.next a.out.now a.at (calendar-called a.r (sym c.calendar_fields.ensures ∙ c.in-Some.is) c.calendar-called.ensures.0)
    (c.answer_with.ensures.buffer, c.answer_with.ensures.answer) in
    record { buffer = told.0; answer = told.1 }
