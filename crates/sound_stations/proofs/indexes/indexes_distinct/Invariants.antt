-- `indexes_distinct` tests each station against those behind it: what is left of the stations tests as all of them. Assumes nothing.
use mathlib.Core.Path.{◌≡◌}
use lib.ListN.{length}
use Rattle.listlaws.specs.Lists.{each_pair}
use Rattle.channel_rules.specs.Soundness.{other_index}
use Rattle.sound_stations.proofs.indexes.indexes_distinct.Given as goal

abbrev pub invariant-loop-first : goal.invariant-loop-first
invariant-loop-first l = each_pair other_index l.rest ≡ each_pair other_index l.stations

abbrev pub decreases-loop-first : goal.decreases-loop-first
decreases-loop-first l = length l.rest
