-- `long_falls` is N's fall by the turn. Assumes nothing.
use Rattle.falling.proofs.long_falls.Goals as goal

pub returns-in-Long : goal.returns-in-Long
returns-in-Long c = rw c.in-Long.is c.less_one.ensures
