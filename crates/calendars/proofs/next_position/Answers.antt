-- `next_position` is the position that follows. Assumes nothing.
use borrow.Author.Tests.{eq-eqb, ne_eqb}
use Rattle.calendars.proofs.next_position.Goals as goal

pub returns-then-p-eq-LAST_POSITION : goal.returns-then-p-eq-LAST_POSITION
returns-then-p-eq-LAST_POSITION c = rw (eq-eqb _ _ c.if-p-eq-LAST_POSITION.true)

pub returns-else-p-eq-LAST_POSITION : goal.returns-else-p-eq-LAST_POSITION
returns-else-p-eq-LAST_POSITION c = rw (ne_eqb _ _ c.if-p-eq-LAST_POSITION.false)
