-- `stepped` goes by the line.
-- Assumes nothing.
use Rattle.advances.proofs.stepped.Goals as goal

pub returns : goal.returns
returns c = rw c.progress_of.ensures
