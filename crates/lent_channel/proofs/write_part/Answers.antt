-- `write_part` puts what the call leaves in the place of the records that were lent. Assumes nothing.
use mathlib.Core.Path.{ap}
use Rattle.lent_channel.specs.Lent.{call_lent_of}
use Rattle.lent_channel.proofs.write_part.Goals as goal

pub returns : goal.returns
returns c = ap (call_lent_of c.args.stations c.args.count) c.write-reply.ensures.0
