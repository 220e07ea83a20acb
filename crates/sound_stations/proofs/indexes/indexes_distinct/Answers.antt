-- `indexes_distinct` tests each station against those behind it: what is left of the stations tests as all of them. Assumes nothing.
use native.Mathlib.Omega.{arith}
use Rattle.std.proofs.lemmas.Grind.{common_steps}
use Rattle.channel_rules.specs.Soundness.{indexes_distinct}
use Rattle.sound_stations.proofs.indexes.indexes_distinct.Goals as goal

pub returns-then-not-alone : goal.returns-then-not-alone
unfolding indexes_distinct
returns-then-not-alone c = grind (arith, common_steps)

pub returns : goal.returns
unfolding indexes_distinct
returns c = grind (arith, common_steps)
