-- `slot` is `channel_slot::slot` on the lent part of the room. Assumes nothing.
use Rattle.rules.specs.Calls.{Slot}
use Rattle.local_channel.specs.Local.{local_slot_of}
use Rattle.local_channel.proofs.Told.{call-both}
use Rattle.local_slot.proofs.slot.Goals as goal

pub returns : goal.returns
unfolding local_slot_of
returns c = let a = c.args in call-both a.c (Slot a.picks.now) (rw c.slot_lent-slotted.ensures)
