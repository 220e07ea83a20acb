-- `begin` is what is known before the first record.
-- Assumes nothing.
use Rattle.following.proofs.begin.Goals as goal

pub returns : goal.returns
returns c = rw c.none.ensures
