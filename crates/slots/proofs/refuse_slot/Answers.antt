-- `refuse_slot` tells the number, and an outcome that nobody steps by. Assumes nothing.
use Rattle.slots.proofs.refuse_slot.Goals as goal

pub returns : goal.returns
returns c = rw c.none.ensures
