-- `next_group` is the group that follows. Assumes nothing.
use borrow.Author.Tests.{eq-eqb, ne_eqb}
use Rattle.falling.proofs.next_group.Goals as goal

pub returns-then-g-n : goal.returns-then-g-n
returns-then-g-n c = rw (eq-eqb _ _ c.if-g-n.true)

pub returns-else-g-n : goal.returns-else-g-n
returns-else-g-n c = rw (ne_eqb _ _ c.if-g-n.false)
