-- `write` is `channel_write::write` on the lent part of the room. Assumes nothing.
use Rattle.rules.specs.Calls.{Write}
use Rattle.local_channel.specs.Local.{local_write_of}
use Rattle.local_channel.proofs.Told.{call-both}
use Rattle.local_write.proofs.write.Goals as goal

pub returns : goal.returns
unfolding local_write_of
returns c = let a = c.args in call-both a.c (Write a.index a.w) (rw c.write_lent-written.ensures)
