-- `put_number` meets its contract: a number that fits is written by one run of stores, and one that does not is not.
-- Assumes nothing.
use mathlib.Core.Path.{sym, ◌∙◌}
use borrow.Author.Tests.{leb-true}
use Rattle.decimals.specs.Decimal.{digits_of}
use Rattle.decimals.proofs.Stores.{put-fits, put-none}
use Rattle.decimals.proofs.put_number.Goals as goal

pub write_number-requires : goal.write_number-requires
write_number-requires c =
    let f = leb-true _ _ (sym c.has_room.ensures ∙ c.if-has_room.true) in
    (c.digits-size.ensures.count, f)

pub returns-then-has_room : goal.returns-then-has_room
returns-then-has_room c =
    let a = c.args in
    let d = c.digits-size.ensures.count in
    let p = put-fits _ a.at (digits_of a.value) (rw d at (sym c.has_room.ensures ∙ c.if-has_room.true)) in record {
      buffer = c.write_number.ensures.buffer ∙ p.0;
      reached = c.write_number.ensures.reached ∙ rw d p.1;
    }

pub returns-else-has_room : goal.returns-else-has_room
returns-else-has_room c =
    let a = c.args in
    let all_told = put-none _ a.at (digits_of a.value) (rw c.digits-size.ensures.count at (sym c.has_room.ensures ∙ c.if-has_room.false)) in
    record { buffer = all_told.0; reached = all_told.1 }
