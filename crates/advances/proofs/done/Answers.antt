-- `done` goes by whether the first record is still to come.
-- Assumes nothing.
use borrow.Author.Tests.{lt-ltb, le-ltb}
use mathlib.Core.Path.{ap}
use Rattle.advances.specs.Advanced.{advanced}
use Rattle.advances.proofs.done.Goals as goal

pub returns-then-f-gt1 : goal.returns-then-f-gt1
returns-then-f-gt1 c = rw (lt-ltb _ _ c.if-f-gt1.true)

pub returns : goal.returns
returns c = rw (le-ltb _ _ c.if-f-gt1.false) (ap advanced (rw c.refused.ensures at c.stepped.ensures))
