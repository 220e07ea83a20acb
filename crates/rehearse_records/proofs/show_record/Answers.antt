-- `show_record` puts the lines of the channel. Assumes nothing.
use Rattle.rehearsing.specs.Rehearsing.{show_result}
use Rattle.rehearse_records.proofs.show_record.Goals as goal

pub returns : goal.returns
unfolding show_result
returns c =
    let buffer = rw (c.past_first.ensures, c.counters_of.ensures) at c.put_show-after.ensures.buffer in
    let reached = rw (c.past_first.ensures, c.counters_of.ensures) at c.put_show-after.ensures.reached in
    record { buffer = buffer; answer = rw (c.place_following.ensures, reached) }
