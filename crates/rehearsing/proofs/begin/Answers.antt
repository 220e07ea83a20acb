-- `begin` has a table of no records, and record 1 to come. Assumes nothing.
use Rattle.rehearsing.proofs.begin.Goals as goal

pub returns : goal.returns
returns c = rw c.blank.ensures
