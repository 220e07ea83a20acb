-- `times` counts one place after the other: the count, and that of what is left of the list, is the list's. Assumes nothing.
use mathlib.Core.Path.{◌≡◌}
use Prim.Native.Nat.{◌+◌, ◌≤◌}
use lib.Dec.{eqb}
use lib.ListN.{drop}
use Rattle.listlaws.specs.Lists.{count_of}
use Rattle.crowds.proofs.times.Given as goal

abbrev pub invariant-loop-y : goal.invariant-loop-y
invariant-loop-y l = (l.n ≤ l.y-index) × (l.n + count_of (eqb l.x) (drop l.y-index l.places) ≡ count_of (eqb l.x) l.places)
