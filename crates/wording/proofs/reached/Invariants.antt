-- `reached` counts one upper half after the other: the count, and that of what is left of the list, is the list's. Assumes nothing.
use mathlib.Core.Path.{◌≡◌}
use Prim.Native.Nat.{◌+◌, ◌≤◌}
use lib.Dec.{leb}
use lib.ListN.{drop}
use Rattle.listlaws.specs.Lists.{count_of}
use Rattle.wording.proofs.reached.Given as goal

abbrev pub invariant-loop-b : goal.invariant-loop-b
invariant-loop-b l = (l.n ≤ l.b-index) × (l.n + count_of (λ b. leb b l.index) (drop l.b-index l.before) ≡ count_of (λ b. leb b l.index) l.before)
