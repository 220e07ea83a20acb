-- `start` is `channel::start` on the lent part of the room. Assumes nothing.
use Rattle.local_channel.specs.Local.{local_start_of}
use Rattle.local_channel.proofs.Told.{start-both}
use Rattle.local_channel.proofs.start.Goals as goal

pub returns : goal.returns
unfolding local_start_of
returns c = start-both c.args.c c.args.m c.args.n c.args.indexes.now (rw c.start_lent-started.ensures)
