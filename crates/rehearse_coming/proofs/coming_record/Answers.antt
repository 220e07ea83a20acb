-- `coming_record` meets its contract: the channel is asked about as many slots as were read. Assumes nothing.
use mathlib.Core.Path.{sym, ◌∙◌}
use Rattle.rehearsing.proofs.Results.{as_result}
use Rattle.rehearse_coming.proofs.Asking.{coming-broken, coming-asked}
use Rattle.rehearse_coming.proofs.coming_record.Goals as goal

pub returns-in_default : goal.returns-in_default
returns-in_default c =
    let a = c.args in
    let told =
    as_result a.r a.next a.out.now a.at (coming-broken a.r (sym c.coming_fields.ensures ∙ c.in_default.is))
    (c.end_with.ensures.buffer, c.end_with.ensures.answer) in
    record { buffer = told.0; answer = told.1 }

pub returns : goal.returns
returns c =
    let a = c.args in
    let told =
    as_result a.r a.next a.out.now a.at (coming-asked a.r (sym c.coming_fields.ensures ∙ c.in-Some.is))
    (c.ask_coming.ensures.buffer, c.ask_coming.ensures.answer) in
    record { buffer = told.0; answer = told.1 }
