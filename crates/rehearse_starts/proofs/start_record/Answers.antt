-- `start_record` meets its contract: the channel's start, by the numbers that were read. Assumes nothing.
use mathlib.Core.Path.{sym, ◌∙◌}
use native.Mathlib.Omega.{arith}
use Rattle.start_fields.proofs.StartReads.{index-room}
use Rattle.rehearsing.proofs.Results.{enough, as_result, start-broken, start-made}
use Rattle.rehearse_starts.proofs.start_record.Goals as goal

pub returns-in_default : goal.returns-in_default
returns-in_default c =
    let a = c.args in
    let told =
    as_result a.r a.next a.out.now a.at (start-broken a.r (sym c.start_fields.ensures.fields ∙ c.in_default.is)) (c.end_with.ensures.buffer, c.end_with.ensures.answer) in
    record { buffer = told.0; answer = told.1 }

pub slice_bounds-values-end : goal.slice_bounds-values-end
slice_bounds-values-end c =
    let full = index-room _ _ (sym c.start_fields.ensures.fields ∙ c.in-Some.is) in
    omega (arith, full, c.in-Some.ensures.count)

pub slice_bounds-start-end : goal.slice_bounds-start-end
slice_bounds-start-end c =
    enough _ _ (index-room _ _ (sym c.start_fields.ensures.fields ∙ c.in-Some.is)) c.in-Some.ensures.count

pub returns : goal.returns
returns c =
    let a = c.args in
    let started = rw c.blank.ensures at c.start-started.ensures.0 in
    let told =
    as_result a.r a.next a.out.now a.at (start-made a.r (sym c.start_fields.ensures.fields ∙ c.in-Some.is) started)
    (c.begin_with.ensures.buffer, c.begin_with.ensures.answer) in
    record { buffer = told.0; answer = told.1 }
