-- `slot_record` meets its contract: the channel's slot, by the picks that were read. Assumes nothing.
use mathlib.Core.Path.{sym, ◌∙◌}
use Rattle.rehearsing.proofs.Results.{enough, low-room, as_result, slot-broken, slot-called}
use Rattle.rehearse_calls.proofs.slot_record.Goals as goal

pub returns-in_default : goal.returns-in_default
returns-in_default c =
    let a = c.args in
    let told =
    as_result a.r a.next a.out.now a.at (slot-broken a.r (sym c.numbers_from.ensures.list ∙ c.in_default.is))
    (c.end_with.ensures.buffer, c.end_with.ensures.answer) in
    record { buffer = told.0; answer = told.1 }

pub slice_bounds-slot-end : goal.slice_bounds-slot-end
slice_bounds-slot-end c =
    enough _ _ (rw c.low_bytes-picks.ensures (low-room _ _ (sym c.numbers_from.ensures.list ∙ c.in-Some.is))) c.in-Some.ensures.count

pub returns : goal.returns
returns c =
    let a = c.args in
    let called = rw c.low_bytes-picks.ensures at c.slot-called.ensures.0 in
    let told =
    as_result a.r a.next a.out.now a.at (slot-called a.r _ _ (sym c.numbers_from.ensures.list ∙ c.in-Some.is) called)
    (c.answer_with.ensures.buffer, c.answer_with.ensures.answer) in
    record { buffer = told.0; answer = told.1 }
