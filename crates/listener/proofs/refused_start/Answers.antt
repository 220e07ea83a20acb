-- `refused_start` gives 5 and the record that stands for none. Assumes nothing.
use Rattle.listener.proofs.refused_start.Goals as goal

pub returns : goal.returns
returns c = rw c.none.ensures
