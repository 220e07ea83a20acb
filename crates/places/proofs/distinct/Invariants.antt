-- `distinct` compares each number with those behind it: what is left of the list tests as the whole. Assumes nothing.
use mathlib.Core.Path.{◌≡◌}
use lib.ListN.{drop}
use Rattle.listlaws.specs.Lists.{each_pair}
use Rattle.places.specs.Places.{differ}
use Rattle.places.proofs.distinct.Given as goal

abbrev pub invariant-loop-i : goal.invariant-loop-i
invariant-loop-i l = each_pair differ (drop l.i l.numbers) ≡ each_pair differ l.numbers
