-- `bare_slot` meets its contract: the channel's slot with no picks. Assumes nothing.
use Rattle.rehearsing.proofs.Results.{as_result, bare_called}
use Rattle.rehearse_calls.proofs.bare_slot.Goals as goal

pub returns : goal.returns
returns c =
    let a = c.args in
    let told =
    as_result a.r a.next a.out.now a.at (bare_called a.r c.slot-called.ensures.0)
    (c.answer_with.ensures.buffer, c.answer_with.ensures.answer) in
    record { buffer = told.0; answer = told.1 }
