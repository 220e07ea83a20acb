-- `write_record` meets its contract: the channel's call, by what was read. Assumes nothing.
use Rattle.rehearsing.proofs.Results.{as_result, write-broken, write-called}
use Rattle.rehearse_calls.proofs.write_record.Goals as goal

pub returns-in-None : goal.returns-in-None
returns-in-None c =
    let a = c.args in
    let told =
    as_result a.r a.next a.out.now a.at (write-broken a.r c.in-None.is)
    (c.end_with.ensures.buffer, c.end_with.ensures.answer) in
    record { buffer = told.0; answer = told.1 }

pub returns-in-Some : goal.returns-in-Some
returns-in-Some c =
    let a = c.args in
    let told =
    as_result a.r a.next a.out.now a.at (write-called a.r c.in-Some.is c.write-called.ensures.0)
    (c.answer_with.ensures.buffer, c.answer_with.ensures.answer) in
    record { buffer = told.0; answer = told.1 }
