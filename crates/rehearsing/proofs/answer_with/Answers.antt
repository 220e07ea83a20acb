-- `answer_with` puts the line of the call's answer. Assumes nothing.
use Rattle.rehearsing.proofs.answer_with.Goals as goal

pub returns : goal.returns
returns c =
    let line = rw (c.past_first.ensures, c.counters_of-c.ensures, c.counters_of-d.ensures) at c.put_answer-after.ensures.buffer in
    let reached = rw (c.past_first.ensures, c.counters_of-c.ensures, c.counters_of-d.ensures) at c.put_answer-after.ensures.reached in
    record { buffer = line; answer = rw (c.place_following.ensures, reached) }
