-- `urgent_falls` is H's fall by the turn. Assumes nothing.
use Rattle.falling.proofs.urgent_falls.Goals as goal

pub returns-in-Urgent : goal.returns-in-Urgent
returns-in-Urgent c = rw c.in-Urgent.is c.less_one.ensures
