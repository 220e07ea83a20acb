-- `read_record` goes by whether the first record is to come: a row, or what the reading of the first record leads to.
-- Assumes nothing.
use mathlib.Core.Path.{◌∙◌}
use borrow.Author.Tests.{lt-ltb, le-ltb}
use Rattle.following.specs.RecordNumbers.{record_number_of}
use Rattle.following.specs.Following.{follow_record}
use Rattle.following.specs.Steps.{first_step, row_step}
use Rattle.record_steps.proofs.FirstReads.{first-broken, first-numbers}
use Rattle.record_steps.proofs.read_record.Goals as goal

pub returns-then-f-gt1 : goal.returns-then-f-gt1
unfolding follow_record record_number_of row_step
returns-then-f-gt1 c = rw (lt-ltb _ _ c.if-f-gt1.true) c.row.ensures

pub returns-in-None : goal.returns-in-None
unfolding follow_record record_number_of first_step
returns-in-None c =
    let a = c.args in
    rw (le-ltb _ _ c.if-f-gt1.false)
    (c.refused.ensures ∙ first-broken a.f a.bytes.now _ c.first_fields.ensures.first c.in-None.is)

pub returns-in-Some : goal.returns-in-Some
unfolding follow_record record_number_of first_step
returns-in-Some c =
    let a = c.args in
    rw (le-ltb _ _ c.if-f-gt1.false)
    (c.start_with.ensures ∙ first-numbers a.f a.bytes.now _ c.first_fields.ensures.first _ c.in-Some.is)
