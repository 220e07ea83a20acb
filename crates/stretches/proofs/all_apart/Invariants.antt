-- `all_apart` tests each stretch against those behind it: what is left of the stretches tests as all of them. Assumes nothing.
use mathlib.Core.Path.{◌≡◌}
use lib.ListN.{length}
use Rattle.listlaws.specs.Lists.{each_pair}
use Rattle.stretches.specs.Stretches.{apart}
use Rattle.stretches.proofs.all_apart.Given as goal

abbrev pub invariant-loop-first : goal.invariant-loop-first
invariant-loop-first l = each_pair apart l.rest ≡ each_pair apart l.stretches

abbrev pub decreases-loop-first : goal.decreases-loop-first
decreases-loop-first l = length l.rest
